-- What marks show stays right, and a clause is read literal by literal.
use Rattle.std.proofs.Common.{◌≡◌, ℕ, ◌<◌, Bool, true, false, not, ◌&&◌, ◌||◌, cond, refl, sym, ap, ◌∙◌, subst, List, [], ◌∷◌, length, get_or, drop, drop-cons, add-one, None, ◌+◌, ◌≤◌, ⊎_elim, set}
use Rattle.std.specs.Prelude.{◌==◌, slice_index}
use Rattle.std.specs.List.{list_all}
use Rattle.std.proofs.lemmas.List.{get_or-set_other, get_or-set_same, length-set, drop_all}
use Rattle.std.proofs.lemmas.Bool.{cases_eq, eq-eqb, ne_eqb, false≢true, and_from, lt-ltb, not_from_false, cond-true}
use Rattle.mon_cnf.specs.declared.clause.Lit.{Lit}
use Rattle.mon_refute.specs.declared.marks.Reading.{Reading}
use Rattle.mon_refute.specs.declared.marks.Reading.TheVariants.{Contradicts, Gives, Neither}
use Rattle.mon_refute.specs.Follow.{same, opposite, is_true, is_false, rest, reading, falsify}
use Rattle.mon_refute.specs.Marks.{Shows, says, reads, note_with}
use Rattle.mon_refute.proofs.Readings.{lit_parts, opposite_opposite}

reads_neither : (known ls : List Lit) → reads known Neither ls ≡ Neither
reads_neither known [] = refl
reads_neither known (l ∷ ls) = reads_neither known ls

same_step : (known ls : List Lit) (f : Lit) (b : Bool) → reads known (Gives f) ls ≡ cond (list_all (same f) (rest known ls)) (Gives f) Neither
    → reads known (cond b (Gives f) Neither) ls ≡ cond (b && list_all (same f) (rest known ls)) (Gives f) Neither
same_step known ls f true e = e
same_step known ls f false e = reads_neither known ls

gives_step : (known ls : List Lit) (f l : Lit) (b t : Bool) → reads known (Gives f) ls ≡ cond (list_all (same f) (rest known ls)) (Gives f) Neither
    → reads known (note_with b t (Gives f) l) ls ≡ cond (list_all (same f) (cond (not b) (l ∷ rest known ls) (rest known ls))) (Gives f) Neither
gives_step known ls f l true t e = e
gives_step known ls f l false t e = same_step known ls f (same f l) e

reads_gives : (known ls : List Lit) (f : Lit) → reads known (Gives f) ls ≡ cond (list_all (same f) (rest known ls)) (Gives f) Neither
reads_gives known [] f = refl
reads_gives known (l ∷ ls) f = gives_step known ls f l (is_false known l) (is_true known l) (reads_gives known ls f)

first_step : (known ls : List Lit) (l : Lit) (t : Bool) → reads known (cond t Neither (Gives l)) ls ≡ cond (not t && list_all (same l) (rest known ls)) (Gives l) Neither
first_step known ls l true = reads_neither known ls
first_step known ls l false = reads_gives known ls l

none_step : (known ls : List Lit) (l : Lit) (b : Bool) → reads known Contradicts ls ≡ reading known (rest known ls)
    → reads known (note_with b (is_true known l) Contradicts l) ls ≡ reading known (cond (not b) (l ∷ rest known ls) (rest known ls))
none_step known ls l true e = e
none_step known ls l false e = first_step known ls l (is_true known l)

pub reads_rest : (known ls : List Lit) → reads known Contradicts ls ≡ reading known (rest known ls)
reads_rest known [] = refl
reads_rest known (l ∷ ls) = none_step known ls l (is_false known l) (reads_rest known ls)

signs : (a b : Bool) → (cond a 1 2 == cond b 1 2) ≡ cond a b (not b)
signs true true = refl
signs true false = refl
signs false true = refl
signs false false = refl

sign_step : (p q x : Bool) → (cond p q (not q) ≡ false → x ≡ false) → (cond p q (not q) || x) ≡ (cond p 1 2 == cond q 1 2)
sign_step true true x f = refl
sign_step true false x f = f refl
sign_step false true x f = f refl
sign_step false false x f = refl

opposite_sign : (p q : Bool) → cond p q (not q) ≡ false → q ≡ not p
opposite_sign true true e = absurd (false≢true (sym e))
opposite_sign true false e = refl
opposite_sign false true e = refl
opposite_sign false false e = absurd (false≢true (sym e))

seen_here : (b s x y : Bool) → b ≡ true → (s || x) ≡ y → ((b && s) || x) ≡ y
seen_here true s x y b e = e
seen_here false s x y b e = absurd (false≢true b)

seen_there : (b s x y : Bool) → b ≡ false → x ≡ y → ((b && s) || x) ≡ y
seen_there true s x y b e = absurd (false≢true (sym b))
seen_there false s x y b e = e

at_opposite : (known : List Lit) (l k : Lit) → l.var ≡ k.var → is_false known l ≡ false → cond l.positive k.positive (not k.positive) ≡ false → is_true known k ≡ false
at_opposite known l k e f s =
    let m : k ≡ opposite l = lit_parts k.var l.var k.positive (not l.positive) (sym e) (opposite_sign l.positive k.positive s) in
    ap (is_true known) m ∙ f

-- a literal that isn't false is marked true
pub shows_more : (marks : List ℕ) (known : List Lit) (l : Lit) → Shows marks known → l.var < length marks → is_false known l ≡ false
    → Shows (set marks l.var (cond l.positive 1 2)) (l ∷ known)
shows_more marks known l h w f = record {
  each = λ k x.
      let y : k.var < length marks = rw length-set at x in
      ⊎_elim
      (λ (e : l.var ≡ k.var). seen_here (l.var == k.var) _ (is_true known k) _ (eq-eqb l.var k.var e)
      (sign_step l.positive k.positive (is_true known k) (at_opposite known l k e f)
      ∙ sym (ap (λ m. says m k.positive) (ap (λ n. slice_index (set marks l.var (cond l.positive 1 2)) n) (sym e) ∙ get_or-set_same marks l.var (cond l.positive 1 2) 0 w))))
      (λ (n : l.var ≡ k.var → ⊥). seen_there (l.var == k.var) _ (is_true known k) _ (ne_eqb l.var k.var n)
      (h.each k y ∙ sym (ap (λ m. says m k.positive) (get_or-set_other marks l.var k.var (cond l.positive 1 2) 0 (λ e. n (sym e))))))
      (cases_eq l.var k.var);
}

other : (p : Bool) → ◌≡◌ {A = ℕ} (cond p 2 1) (cond (not p) 1 2)
other true = refl
other false = refl

-- a literal that isn't true is marked false
pub shows_false : (marks : List ℕ) (known : List Lit) (l : Lit) → Shows marks known → l.var < length marks → is_true known l ≡ false
    → Shows (set marks l.var (cond l.positive 2 1)) (opposite l ∷ known)
shows_false marks known l h w f =
    subst (λ m. Shows (set marks l.var m) (opposite l ∷ known)) (sym (other l.positive))
    (shows_more marks known (opposite l) h w (ap (is_true known) (opposite_opposite l) ∙ f))

pub reads_end : (known : List Lit) (s : Reading) (c : List Lit) (i : ℕ) → length c ≤ i → reads known Contradicts c ≡ reads known s (drop i c) → s ≡ reading known (rest known c)
reads_end known s c i w e = ap (reads known s) (sym (drop_all i c w)) ∙ sym e ∙ reads_rest known c

pub start_more : (marks : List ℕ) (line known : List Lit) (i m : ℕ) (d : Lit) → Shows marks known → i < length line
    → (get_or line i d).var < length marks → (slice_index marks (get_or line i d).var ≡ cond (get_or line i d).positive 1 2 → ⊥) → m ≡ cond (get_or line i d).positive 2 1
    → falsify (length marks) [] line ≡ falsify (length marks) known (drop i line)
    → (more : List Lit) × Shows (set marks (get_or line i d).var m) more
    × (falsify (length (set marks (get_or line i d).var m)) [] line ≡ falsify (length (set marks (get_or line i d).var m)) more (drop (i + 1) line))
start_more marks line known i m d h w v n e f =
    let l = get_or line i d in
    let k : is_true known l ≡ false = h.each l v ∙ ne_eqb (slice_index marks l.var) (cond l.positive 1 2) n in
    let r : drop i line ≡ l ∷ drop (i + 1) line = rw add-one (drop-cons line i d w) in
    let x : falsify (length marks) [] line ≡ falsify (length marks) (opposite l ∷ known) (drop (i + 1) line) =
    f ∙ ap (falsify (length marks) known) r ∙ cond-true _ _ None (and_from _ _ (lt-ltb l.var (length marks) v) (not_from_false _ k)) in
    (opposite l ∷ known, subst (λ m. Shows (set marks l.var m) (opposite l ∷ known)) (sym e) (shows_false marks known l h v k), rw length-set x)
