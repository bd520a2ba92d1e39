-- Which marks a line leaves, and that clearing them leaves none.
use Rattle.std.proofs.Common.{◌≡◌, ◌≢◌, ℕ, ◌+◌, ◌<◌, ◌≤◌, Bool, true, false, not, ◌||◌, cond, refl, sym, ap, ◌∙◌, subst, List, [], ◌∷◌, ◌++◌, length, get_or, set, take, drop, replicate, Option, Some, None, ⊎_elim, arith, zero, suc, drop-cons, add-one}
use Rattle.std.specs.Prelude.{◌==◌, slice_index}
use Rattle.std.specs.List.{flat_map}
use Rattle.std.proofs.lemmas.List.{get_or-set_other, get_or-set_same, take_more, take-append-drop, drop_all}
use Rattle.std.proofs.lemmas.List.Folds.{list_any-append}
use Rattle.std.proofs.lemmas.Grind.{flat_map-append}
use Rattle.std.proofs.lemmas.Bool.{or_parts, eq-eqb, ne_eqb, cases_eq, or_left, or_right, both_ways}
use Rattle.mon_cnf.specs.declared.clause.Lit.{Lit}
use Rattle.mon_refute.specs.declared.marks.Reading.TheVariants.{Gives}
use Rattle.mon_refute.specs.Follow.{mentions, hinted, literals_in, named, is_false, rest, reading, reading_of}
use Rattle.mon_refute.specs.Marks.{Shows, says, AreClear, ClearBut}
use Rattle.mon_refute.proofs.Readings.{gives_cond}

dropped : {X : Type 0} (xs : List X) (i : ℕ) (d : X) → i < length xs → drop i xs ≡ get_or xs i d ∷ drop (i + 1) xs
dropped xs i d w = rw add-one (drop-cons xs i d w)

-- what is mentioned in two lists
both_free : (x : ℕ) (c d : List Lit) → mentions x (c ++ d) ≡ false → (mentions x c ≡ false) × (mentions x d ≡ false)
both_free x c d e = or_parts (mentions x c) (mentions x d) (sym (list_any-append (λ (l : Lit). l.var == x) c d) ∙ e)

free_both : (x : ℕ) (c d : List Lit) → mentions x c ≡ false → mentions x d ≡ false → mentions x (c ++ d) ≡ false
free_both x c d e f = list_any-append (λ (l : Lit). l.var == x) c d ∙ ap (λ b. b || mentions x d) e ∙ f

zero_past : (n x : ℕ) → slice_index (replicate n 0) x ≡ 0
zero_past zero x = refl
zero_past (suc n) zero = refl
zero_past (suc n) (suc x) = zero_past n x

pub filled_clear : (marks : List ℕ) (n : ℕ) → marks ≡ replicate n 0 → AreClear marks
filled_clear marks n e x = ap (λ ms. slice_index ms x) e ∙ zero_past n x

says_none : (m : ℕ) (p : Bool) → m ≡ 0 → false ≡ says m p
says_none m true e = sym (ap (λ k. k == 1) e)
says_none m false e = sym (ap (λ k. k == 2) e)

pub clear_shows : (marks : List ℕ) → AreClear marks → Shows marks []
clear_shows marks a = record { each = λ l w. says_none (slice_index marks l.var) l.positive (a l.var) }

-- a mark that is set or cleared
set_at : (marks : List ℕ) (v m x : ℕ) → x ≢ v → slice_index (set marks v m) x ≡ slice_index marks x
set_at marks v m x n = get_or-set_other marks v x m 0 n

set_zero : (marks : List ℕ) (v x : ℕ) → (x ≢ v → slice_index marks x ≡ 0) → v < length marks → slice_index (set marks v 0) x ≡ 0
set_zero marks v x f w = ⊎_elim (λ (e : x ≡ v). ap (λ y. slice_index (set marks v 0) y) e ∙ get_or-set_same marks v 0 0 w) (λ (n : x ≡ v → ⊥). set_at marks v 0 x n ∙ f n) (cases_eq x v)

past_zero : (marks : List ℕ) (x v : ℕ) → length marks ≤ v → x ≡ v → slice_index marks x ≡ 0
past_zero [] x v w e = refl
past_zero (m ∷ ms) zero zero w e = absurd (omega arith)
past_zero (m ∷ ms) zero (suc v) w e = absurd (omega arith)
past_zero (m ∷ ms) (suc x) zero w e = absurd (omega arith)
past_zero (m ∷ ms) (suc x) (suc v) w e = past_zero ms x v (omega arith) (omega arith)

-- clearing, literal by literal
pub record Clearing (clause : List Lit) (old : List ℕ) (left : List Lit) (marks : List ℕ) : Type 0 where
  pub each : (x : ℕ) → (mentions x clause ≡ false → slice_index old x ≡ 0) → mentions x left ≡ false → slice_index marks x ≡ 0

pub clearing_start : (clause : List Lit) (old : List ℕ) → Clearing clause old clause old
clearing_start clause old = record { each = λ x f m. f m }

free_first : (l : Lit) (ls : List Lit) (x : ℕ) → x ≢ l.var → mentions x ls ≡ false → mentions x (l ∷ ls) ≡ false
free_first l ls x n m = ap (λ b. b || mentions x ls) (ne_eqb l.var x (λ e. n (sym e))) ∙ m

pub clearing_set : (clause : List Lit) (old marks : List ℕ) (i : ℕ) (d : Lit) → i < length clause → (get_or clause i d).var < length marks → Clearing clause old (drop i clause) marks
    → Clearing clause old (drop (i + 1) clause) (set marks (get_or clause i d).var 0)
clearing_set clause old marks i d w v c = record {
  each = λ x f m. set_zero marks (get_or clause i d).var x
      (λ n. c.each x f (ap (mentions x) (dropped clause i d w) ∙ free_first (get_or clause i d) (drop (i + 1) clause) x n m)) v;
}

pub clearing_past : (clause : List Lit) (old marks : List ℕ) (i : ℕ) (d : Lit) → i < length clause → length marks ≤ (get_or clause i d).var → Clearing clause old (drop i clause) marks
    → Clearing clause old (drop (i + 1) clause) marks
clearing_past clause old marks i d w v c = record {
  each = λ x f m. ⊎_elim (λ (e : x ≡ (get_or clause i d).var). past_zero marks x (get_or clause i d).var v e)
      (λ (n : x ≡ (get_or clause i d).var → ⊥). c.each x f (ap (mentions x) (dropped clause i d w) ∙ free_first (get_or clause i d) (drop (i + 1) clause) x n m))
      (cases_eq x (get_or clause i d).var);
}

pub clearing_end : (clause : List Lit) (old marks : List ℕ) (i : ℕ) → length clause ≤ i → Clearing clause old (drop i clause) marks → (x : ℕ) → (mentions x clause ≡ false → slice_index old x ≡ 0) → slice_index marks x ≡ 0
clearing_end clause old marks i w c x f = c.each x f (ap (mentions x) (drop_all i clause w))

-- marks of a line, as its literals are marked
pub start_others : (marks : List ℕ) (line : List Lit) (i m : ℕ) (d : Lit) → i < length line → ClearBut (take i line) marks → ClearBut (take (i + 1) line) (set marks (get_or line i d).var m)
start_others marks line i m d w c x e =
    let p = both_free x (take i line) (get_or line i d ∷ []) (ap (mentions x) (sym (take_more line i d w)) ∙ e) in
    let q = or_parts ((get_or line i d).var == x) false p.1 in
    set_at marks (get_or line i d).var m x (λ n. both_ways ((get_or line i d).var == x) q.0 (eq-eqb (get_or line i d).var x (sym n))) ∙ c x p.0

pub taken_others : (marks : List ℕ) (line : List Lit) (i : ℕ) → ClearBut (take i line) marks → ClearBut line marks
taken_others marks line i c x e = c x (both_free x (take i line) (drop i line) (ap (mentions x) (take-append-drop i line) ∙ e)).0

-- the literal that a clause gives is of the clause
any_first : (known xs ls : List Lit) (x l : Lit) (b : Bool) → (rest known xs ≡ l ∷ ls → mentions l.var xs ≡ true) → cond (not b) (x ∷ rest known xs) (rest known xs) ≡ l ∷ ls → mentions l.var (x ∷ xs) ≡ true
any_first known xs ls x l true f e = or_right _ _ (f e)
any_first known xs ls x l false f e = let h : x ≡ l = cc in or_left _ _ (eq-eqb x.var l.var (ap (λ (k : Lit). k.var) h))

rest_mentions : (known c ls : List Lit) (l : Lit) → rest known c ≡ l ∷ ls → mentions l.var c ≡ true
rest_mentions known [] ls l e = cc
rest_mentions known (x ∷ xs) ls l e = any_first known xs ls x l (is_false known x) (λ f. rest_mentions known xs ls l f) e

first_mentions : (known c r : List Lit) (l : Lit) → rest known c ≡ r → reading known r ≡ Gives l → mentions l.var c ≡ true
first_mentions known c [] l e g = cc
first_mentions known c (k ∷ ks) l e g = rest_mentions known c ks l (e ∙ ap (λ x. x ∷ ks) (gives_cond _ k l g))

of_mentions : (known : List Lit) (o : Option (List Lit)) (l : Lit) → reading_of known o ≡ Gives l → mentions l.var (literals_in o) ≡ true
of_mentions known None l e = cc
of_mentions known (Some c) l e = first_mentions known c (rest known c) l refl e

append_nothing : (xs : List Lit) → xs ++ [] ≡ xs
append_nothing [] = refl
append_nothing (x ∷ xs) = ap (λ ys. x ∷ ys) (append_nothing xs)

flat_one : (f : ℕ → List Lit) (h : ℕ) → flat_map f (h ∷ []) ≡ f h
flat_one f h = append_nothing (f h)

flat_take : (f : ℕ → List Lit) (hs : List ℕ) (i : ℕ) → i < length hs → flat_map f (take (i + 1) hs) ≡ flat_map f (take i hs) ++ f (get_or hs i 0)
flat_take f hs i w = ap (flat_map f) (take_more hs i 0 w) ∙ flat_map-append f (take i hs) (get_or hs i 0 ∷ []) ∙ ap (λ xs. flat_map f (take i hs) ++ xs) (flat_one f (get_or hs i 0))

-- one hint more has marked
pub hint_others : (cs : List (List Lit)) (line known : List Lit) (hs : List ℕ) (marks : List ℕ) (i m : ℕ) (l : Lit) → i < length hs → reading_of known (named cs (get_or hs i 0)) ≡ Gives l
    → ClearBut (line ++ flat_map (hinted cs) (take i hs)) marks → ClearBut (line ++ flat_map (hinted cs) (take (i + 1) hs)) (set marks l.var m)
hint_others cs line known hs marks i m l w g c x e =
    let p = both_free x line (flat_map (hinted cs) (take (i + 1) hs)) e in
    let q = both_free x (flat_map (hinted cs) (take i hs)) (hinted cs (get_or hs i 0)) (ap (mentions x) (sym (flat_take (hinted cs) hs i w)) ∙ p.1) in
    let n : x ≢ l.var = λ s. both_ways (mentions x (hinted cs (get_or hs i 0))) q.1 (subst (λ y. mentions y (hinted cs (get_or hs i 0)) ≡ true) (sym s) (of_mentions known (named cs (get_or hs i 0)) l g)) in
    set_at marks l.var m x n ∙ c x (free_both x line (flat_map (hinted cs) (take i hs)) p.0 q.0)

flat_split : (f : ℕ → List Lit) (hs : List ℕ) (i : ℕ) → flat_map f hs ≡ flat_map f (take i hs) ++ flat_map f (drop i hs)
flat_split f hs i = ap (flat_map f) (sym (take-append-drop i hs)) ∙ flat_map-append f (take i hs) (drop i hs)

pub all_others : (cs : List (List Lit)) (line : List Lit) (hs : List ℕ) (marks : List ℕ) (i : ℕ) → ClearBut (line ++ flat_map (hinted cs) (take i hs)) marks → ClearBut (line ++ flat_map (hinted cs) hs) marks
all_others cs line hs marks i c x e =
    let p = both_free x line (flat_map (hinted cs) hs) e in
    let q = both_free x (flat_map (hinted cs) (take i hs)) (flat_map (hinted cs) (drop i hs)) (ap (mentions x) (sym (flat_split (hinted cs) hs i)) ∙ p.1) in
    c x (free_both x line (flat_map (hinted cs) (take i hs)) p.0 q.0)

pub line_others : (cs : List (List Lit)) (line : List Lit) (hs : List ℕ) (marks : List ℕ) → ClearBut line marks → ClearBut (line ++ flat_map (hinted cs) hs) marks
line_others cs line hs marks c x e = c x (both_free x line (flat_map (hinted cs) hs) e).0

pub line_start : (cs : List (List Lit)) (line : List Lit) (hs : List ℕ) (marks : List ℕ) → ClearBut line marks → ClearBut (line ++ flat_map (hinted cs) (take 0 hs)) marks
line_start cs line hs marks c x e = c x (both_free x line (flat_map (hinted cs) (take 0 hs)) e).0

-- the line's literals are cleared, and then the hinted clauses one by one
pub rest_left : (cs : List (List Lit)) (line : List Lit) (hs : List ℕ) (old marks : List ℕ) → ClearBut (line ++ flat_map (hinted cs) hs) old
    → ((x : ℕ) → (mentions x line ≡ false → slice_index old x ≡ 0) → slice_index marks x ≡ 0) → ClearBut (flat_map (hinted cs) hs) marks
rest_left cs line hs old marks c f x e = f x (λ m. c x (free_both x line (flat_map (hinted cs) hs) m e))

pub less_left : (cs : List (List Lit)) (hs : List ℕ) (i : ℕ) (old marks : List ℕ) (c : List Lit) → i < length hs → c ≡ hinted cs (get_or hs i 0) → ClearBut (flat_map (hinted cs) (drop i hs)) old
    → ((x : ℕ) → (mentions x c ≡ false → slice_index old x ≡ 0) → slice_index marks x ≡ 0) → ClearBut (flat_map (hinted cs) (drop (i + 1) hs)) marks
less_left cs hs i old marks c w s k f x e =
    f x (λ m. k x (ap (λ ys. mentions x (flat_map (hinted cs) ys)) (dropped hs i 0 w)
    ∙ free_both x (hinted cs (get_or hs i 0)) (flat_map (hinted cs) (drop (i + 1) hs)) (ap (mentions x) (sym s) ∙ m) e))

pub none_left : (cs : List (List Lit)) (hs : List ℕ) (i : ℕ) (marks : List ℕ) → length hs ≤ i → ClearBut (flat_map (hinted cs) (drop i hs)) marks → AreClear marks
none_left cs hs i marks w c x = c x (ap (λ ys. mentions x (flat_map (hinted cs) ys)) (drop_all i hs w))
