-- A step along the hints, and along the log.
use Rattle.std.proofs.Common.{◌≡◌, ℕ, ◌+◌, ◌-◌, ◌<◌, Bool, true, false, not, ◌&&◌, cond, refl, sym, ap, ◌∙◌, subst, List, [], ◌∷◌, ◌++◌, length, get_or, drop, take, drop-cons, add-one, Option, Some, None, zero, suc, arith, append_assoc}
use Rattle.std.specs.Prelude.{◌==◌, nat_lt}
use Rattle.std.specs.List.{slice_get}
use Rattle.std.proofs.lemmas.Bool.{false≢true, and_parts, ltb-true, ne_eqb}
use Rattle.std.proofs.lemmas.List.{take_more, map-append}
use Rattle.mon_cnf.specs.declared.clause.Lit.{Lit}
use Rattle.mon_cnf.specs.Truth.{Within, WithinAll}
use Rattle.mon_refute.specs.declared.lines.LogLine.{LogLine}
use Rattle.mon_refute.specs.declared.marks.Reading.{Reading}
use Rattle.mon_refute.specs.declared.marks.Reading.TheVariants.{Contradicts, Gives, Neither}
use Rattle.mon_refute.specs.Follow.{is_false, rest, reading, reading_of, named, opposite, by_hints, by_start, falsify, follows, all_follow, ends_empty, is_empty, literals_of}
use Rattle.mon_refute.proofs.Readings.{hint_then, gives_cond}

pub record Given (n : ℕ) (known : List Lit) (l : Lit) : Type 0 where
  pub inside : l.var < n
  pub undecided : is_false known l ≡ false

first_of_cond : (n : ℕ) (known xs ls : List Lit) (x l : Lit) (b : Bool) → is_false known x ≡ b → x.var < n → (xs ≡ l ∷ ls → Given n known l) → cond (not b) (x ∷ xs) xs ≡ l ∷ ls → Given n known l
first_of_cond n known xs ls x l true f w g e = g e
first_of_cond n known xs ls x l false f w g e = let m : x ≡ l = cc in subst (λ k. Given n known k) m (record { inside = w; undecided = f })

first_of_rest : (n : ℕ) (known c ls : List Lit) (l : Lit) → Within n c → rest known c ≡ l ∷ ls → Given n known l
first_of_rest n known [] ls l w e = cc
first_of_rest n known (x ∷ xs) ls l w e = first_of_cond n known (rest known xs) ls x l (is_false known x) refl w.0 (λ f. first_of_rest n known xs ls l w.1 f) e

gives_first : (known r : List Lit) (l : Lit) → reading known r ≡ Gives l → (ls : List Lit) × (r ≡ l ∷ ls)
gives_first known [] l e = cc
gives_first known (k ∷ ks) l e = (ks, ap (λ x. x ∷ ks) (gives_cond _ k l e))

of_given : (n : ℕ) (known : List Lit) (o : Option (List Lit)) (l : Lit) → ((c : List Lit) → o ≡ Some c → Within n c) → reading_of known o ≡ Gives l → Given n known l
of_given n known None l w e = cc
of_given n known (Some c) l w e = let f = gives_first known (rest known c) l e in first_of_rest n known c f.0 l (w c refl) f.1

within_place : (n : ℕ) (cs : List (List Lit)) (k : ℕ) (c : List Lit) → WithinAll n cs → slice_get cs k ≡ Some c → Within n c
within_place n [] k c w e = cc
within_place n (d ∷ ds) zero c w e = let m : d ≡ c = cc in subst (Within n) m w.0
within_place n (d ∷ ds) (suc k) c w e = within_place n ds k c w.1 e

named_cond : (b : Bool) (o : Option (List Lit)) (c : List Lit) → cond b None o ≡ Some c → o ≡ Some c
named_cond true o c e = cc
named_cond false o c e = e

pub given : (n : ℕ) (cs : List (List Lit)) (known : List Lit) (h : ℕ) (l : Lit) → WithinAll n cs → reading_of known (named cs h) ≡ Gives l → Given n known l
given n cs known h l w e = of_given n known (named cs h) l (λ c f. within_place n cs (h - 1) c w (named_cond (h == 0) _ c f)) e

-- what the loop over hints does at place i
pub at_hint : (cs : List (List Lit)) (known : List Lit) (items : List ℕ) (i : ℕ) (r : Reading) → i < length items → reading_of known (named cs (get_or items i 0)) ≡ r
    → by_hints cs known (drop i items) ≡ elim r as (λ _. Bool) [ Contradicts ↦ true | Gives l ↦ by_hints cs (l ∷ known) (drop (i + 1) items) | Neither ↦ false ]
at_hint cs known items i r w e =
    let s : drop i items ≡ get_or items i 0 ∷ drop (i + 1) items = rw add-one (drop-cons items i 0 w) in
    ap (by_hints cs known) s ∙ hint_then cs known (get_or items i 0) (drop (i + 1) items) r e

within_or : (cs : List (List Lit)) (hs : List ℕ) (P : Type 0) (b : Bool) (o : Option (List Lit)) → (b ≡ true → by_start cs hs o ≡ true → P) → by_start cs hs (cond b o None) ≡ true → P
within_or cs hs P true o f e = f refl e
within_or cs hs P false o f e = absurd (false≢true e)

start_within : (cs : List (List Lit)) (hs : List ℕ) (n : ℕ) (known ls : List Lit) → by_start cs hs (falsify n known ls) ≡ true → Within n ls
start_within cs hs n known [] e = tt
start_within cs hs n known (l ∷ ls) e =
    within_or cs hs (Within n (l ∷ ls)) _ _ (λ b x. (ltb-true l.var n (and_parts (nat_lt l.var n) _ b).0, start_within cs hs n (opposite l ∷ known) ls x)) e

within_push : (n : ℕ) (cs : List (List Lit)) (c : List Lit) → WithinAll n cs → Within n c → WithinAll n (cs ++ (c ∷ []))
within_push n [] c w x = (x, tt)
within_push n (d ∷ ds) c w x = (w.0, within_push n ds c w.1 x)

pub ends_push : (log : List LogLine) (l : LogLine) → ends_empty (log ++ (l ∷ [])) ≡ is_empty l.literals
ends_push [] l = refl
ends_push (m ∷ []) l = refl
ends_push (m ∷ k ∷ ms) l = ends_push (k ∷ ms) l

none_left : (c : List Lit) → (length c == 0) ≡ is_empty c
none_left [] = refl
none_left (l ∷ ls) = ne_eqb (suc (length ls)) 0 (λ e. omega arith)

more_literals : (log : List LogLine) (i : ℕ) (l : LogLine) → i < length log → l ≡ get_or log i l → literals_of (take (i + 1) log) ≡ literals_of (take i log) ++ (l.literals ∷ [])
more_literals log i l w e = ap literals_of (take_more log i l w) ∙ map-append (λ (l : LogLine). l.literals) (take i log) (get_or log i l ∷ []) ∙ ap (λ (x : LogLine). literals_of (take i log) ++ (x.literals ∷ [])) (sym e)

pub log_within : (n : ℕ) (cs : List (List Lit)) (log : List LogLine) (i : ℕ) (l : LogLine) → i < length log → l ≡ get_or log i l
    → WithinAll n (cs ++ literals_of (take i log)) → follows n (cs ++ literals_of (take i log)) l ≡ true → WithinAll n (cs ++ literals_of (take (i + 1) log))
log_within n cs log i l w e a f =
    let x = within_push n (cs ++ literals_of (take i log)) l.literals a (start_within (cs ++ literals_of (take i log)) l.hints n [] l.literals f) in
    subst (λ ds. WithinAll n ds) (append_assoc cs (literals_of (take i log)) (l.literals ∷ []) ∙ ap (λ ds. cs ++ ds) (sym (more_literals log i l w e))) x

pub log_follows : (n : ℕ) (cs : List (List Lit)) (log : List LogLine) (i : ℕ) (l : LogLine) → i < length log → l ≡ get_or log i l
    → follows n (cs ++ literals_of (take i log)) l ≡ true
    → all_follow n (cs ++ literals_of (take i log)) (drop i log) ≡ all_follow n (cs ++ literals_of (take (i + 1) log)) (drop (i + 1) log)
log_follows n cs log i l w e f =
    let s : drop i log ≡ l ∷ drop (i + 1) log = rw add-one (drop-cons log i l w) ∙ ap (λ x. x ∷ drop (i + 1) log) (sym e) in
    let ds = cs ++ literals_of (take i log) in
    ap (all_follow n ds) s
    ∙ ap (λ b. b && all_follow n (ds ++ (l.literals ∷ [])) (drop (i + 1) log)) f
    ∙ ap (λ es. all_follow n es (drop (i + 1) log)) (append_assoc cs (literals_of (take i log)) (l.literals ∷ []) ∙ ap (λ ds. cs ++ ds) (sym (more_literals log i l w e)))

pub log_ends : (log : List LogLine) (i : ℕ) (l : LogLine) (c : List Lit) (b : Bool) → i < length log → l ≡ get_or log i l → c ≡ l.literals → b ≡ (length c == 0) → b ≡ ends_empty (take (i + 1) log)
log_ends log i l c b w e f g = g ∙ none_left c ∙ ap is_empty (f ∙ ap (λ (x : LogLine). x.literals) e) ∙ sym (ap ends_empty (take_more log i l w) ∙ ends_push (take i log) (get_or log i l))
