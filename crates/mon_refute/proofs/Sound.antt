-- A line that follows is true wherever the clauses are.
use Rattle.std.proofs.Common.{◌≡◌, ℕ, Bool, true, false, not, cond, refl, sym, ap, ◌∙◌, List, [], ◌∷◌, ◌++◌, Option, Some, None, ◌⊎◌, ⊎_elim, inl, inr, zero, suc, MatchOption, ◌-◌}
use Rattle.std.specs.Prelude.{◌==◌}
use Rattle.std.specs.List.{list_all, list_any, slice_get, AllByRecursion}
use Rattle.std.proofs.lemmas.Bool.{and_parts, and_from, or_cases, or_left, or_right, not_from_false, not_from_true, false≢true, eqb-true, both_ways, or_parts, true_from_ne_false}
use Rattle.std.proofs.lemmas.List.Folds.{list_all-append}
use Rattle.mon_cnf.specs.declared.clause.Lit.{Lit}
use Rattle.mon_cnf.specs.Truth.{lit_true, clause_true, formula_true}
use Rattle.mon_refute.specs.declared.lines.LogLine.{LogLine}
use Rattle.mon_refute.specs.declared.marks.Reading.{Reading}
use Rattle.mon_refute.specs.declared.marks.Reading.TheVariants.{Contradicts, Gives, Neither}
use Rattle.mon_refute.specs.Follow.{same, opposite, is_true, is_false, rest, reading, reading_of, named, by_hints, falsify, by_start, follows, all_follow, is_empty, ends_empty}
use Rattle.mon_refute.specs.Law.{AcceptedMeansNone}
use Rattle.mon_refute.proofs.Readings.{same_sign}

abbrev pub Right : (ℕ → Bool) → List Lit → Type 0
Right v known = AllByRecursion (λ k. lit_true v k ≡ true) known

pub same_lit : (v : ℕ → Bool) (a b : Lit) → same a b ≡ true → lit_true v a ≡ lit_true v b
same_lit v a b e =
    let p = and_parts (a.var == b.var) _ e in
    let x : a.var ≡ b.var = eqb-true a.var b.var p.0 in
    let s : a.positive ≡ b.positive = same_sign a.positive b.positive p.1 in
    ap (λ s. cond s (v a.var) (not (v a.var))) s ∙ ap (λ x. cond b.positive (v x) (not (v x))) x

pub known_true : (v : ℕ → Bool) (known : List Lit) (l : Lit) → Right v known → is_true known l ≡ true → lit_true v l ≡ true
known_true v [] l r e = absurd (false≢true e)
known_true v (k ∷ ks) l r e = ⊎_elim (λ s. sym (same_lit v k l s) ∙ r.0) (λ s. known_true v ks l r.1 s) (or_cases (same k l) _ e)

turned : (p b : Bool) → cond (not p) b (not b) ≡ not (cond p b (not b))
turned true b = refl
turned false true = refl
turned false false = refl

pub opposite_true : (v : ℕ → Bool) (l : Lit) → lit_true v (opposite l) ≡ not (lit_true v l)
opposite_true v l = turned l.positive (v l.var)

rest_step : (v : ℕ → Bool) (l : Lit) (ls : List Lit) (b : Bool) → (b ≡ true → lit_true v l ≡ true → ⊥) → (lit_true v l ≡ true) ⊎ (list_any (lit_true v) ls ≡ true) → list_any (lit_true v) (cond (not b) (l ∷ ls) ls) ≡ true
rest_step v l ls true f (inl t) = absurd (f refl t)
rest_step v l ls true f (inr t) = t
rest_step v l ls false f (inl t) = or_left _ _ t
rest_step v l ls false f (inr t) = or_right _ _ t

pub rest_true : (v : ℕ → Bool) (known c : List Lit) → Right v known → clause_true v c ≡ true → list_any (lit_true v) (rest known c) ≡ true
rest_true v known [] r e = e
rest_true v known (l ∷ ls) r e =
    rest_step v l (rest known ls) (is_false known l)
    (λ f t. both_ways (lit_true v (opposite l)) (opposite_true v l ∙ not_from_true _ t) (known_true v known (opposite l) r f))
    (⊎_elim (λ t. inl t) (λ t. inr (rest_true v known ls r t)) (or_cases (lit_true v l) _ e))

all_same : (v : ℕ → Bool) (l : Lit) (ls : List Lit) → list_all (same l) ls ≡ true → list_any (lit_true v) ls ≡ true → lit_true v l ≡ true
all_same v l [] a t = absurd (false≢true t)
all_same v l (k ∷ ks) a t =
    let p = and_parts (same l k) _ a in
    ⊎_elim (λ e. same_lit v l k p.0 ∙ e) (λ e. all_same v l ks p.1 e) (or_cases (lit_true v k) _ t)

-- what a reading means where some literal is true
abbrev Means : (ℕ → Bool) → Reading → Type 0
Means v Contradicts = ⊥
Means v (Gives l) = lit_true v l ≡ true
Means v Neither = Unit {0}

gives_means : (v : ℕ → Bool) (l : Lit) (b : Bool) → (b ≡ true → lit_true v l ≡ true) → Means v (cond b (Gives l) Neither)
gives_means v l true f = f refl
gives_means v l false f = tt

reading_means : (v : ℕ → Bool) (known ls : List Lit) → list_any (lit_true v) ls ≡ true → Means v (reading known ls)
reading_means v known [] t = absurd (false≢true t)
reading_means v known (l ∷ ls) t =
    gives_means v l _ (λ e. ⊎_elim (λ x. x) (λ x. all_same v l ls (and_parts (not (is_true known l)) _ e).1 x) (or_cases (lit_true v l) _ t))

at_true : (v : ℕ → Bool) (cs : List (List Lit)) (n : ℕ) → formula_true v cs ≡ true → MatchOption (slice_get cs n) (Unit {0}) (λ c. clause_true v c ≡ true)
at_true v [] n e = tt
at_true v (c ∷ cs) zero e = (and_parts (clause_true v c) _ e).0
at_true v (c ∷ cs) (suc n) e = at_true v cs n (and_parts (clause_true v c) _ e).1

of_means : (v : ℕ → Bool) (known : List Lit) (o : Option (List Lit)) → Right v known → MatchOption o (Unit {0}) (λ c. clause_true v c ≡ true) → Means v (reading_of known o)
of_means v known None r e = tt
of_means v known (Some c) r e = reading_means v known (rest known c) (rest_true v known c r e)

none_or : (P : List Lit → Type 0) (b : Bool) (o : Option (List Lit)) → MatchOption o (Unit {0}) P → MatchOption (cond b None o) (Unit {0}) P
none_or P true o m = tt
none_or P false o m = m

named_true : (v : ℕ → Bool) (cs : List (List Lit)) (h : ℕ) → formula_true v cs ≡ true → MatchOption (named cs h) (Unit {0}) (λ c. clause_true v c ≡ true)
named_true v cs h e = none_or (λ c. clause_true v c ≡ true) (h == 0) (slice_get cs (h - 1)) (at_true v cs (h - 1) e)

hint_step : (v : ℕ → Bool) (cs : List (List Lit)) (known : List Lit) (hs : List ℕ) (x : Reading) → Means v x
    → ((l : Lit) → lit_true v l ≡ true → by_hints cs (l ∷ known) hs ≡ true → ⊥)
    → elim x as (λ _. Bool) [ Contradicts ↦ true | Gives l ↦ by_hints cs (l ∷ known) hs | Neither ↦ false ] ≡ true → ⊥
hint_step v cs known hs Contradicts m f e = m
hint_step v cs known hs (Gives l) m f e = f l m e
hint_step v cs known hs Neither m f e = false≢true e

pub by_hints_none : (v : ℕ → Bool) (cs : List (List Lit)) (known : List Lit) (hs : List ℕ) → formula_true v cs ≡ true → Right v known → by_hints cs known hs ≡ true → ⊥
by_hints_none v cs known [] o r e = false≢true e
by_hints_none v cs known (h ∷ hs) o r e =
    hint_step v cs known hs _ (of_means v known (named cs h) r (named_true v cs h o)) (λ l t x. by_hints_none v cs (l ∷ known) hs o (t, r) x) e

started_or : (v : ℕ → Bool) (cs : List (List Lit)) (hs : List ℕ) (b : Bool) (o : Option (List Lit)) → (by_start cs hs o ≡ true → ⊥) → by_start cs hs (cond b o None) ≡ true → ⊥
started_or v cs hs true o f e = f e
started_or v cs hs false o f e = false≢true e

empty_none : (v : ℕ → Bool) (ls : List Lit) → clause_true v ls ≡ true → is_empty ls ≡ true → ⊥
empty_none v [] t e = false≢true t
empty_none v (l ∷ ls) t e = false≢true e

start_none : (v : ℕ → Bool) (cs : List (List Lit)) (hs : List ℕ) (vars : ℕ) (known ls : List Lit) → formula_true v cs ≡ true → Right v known
    → clause_true v ls ≡ false → by_start cs hs (falsify vars known ls) ≡ true → ⊥
start_none v cs hs vars known [] o r f e = by_hints_none v cs known hs o r e
start_none v cs hs vars known (l ∷ ls) o r f e =
    let p = or_parts (lit_true v l) _ f in
    started_or v cs hs _ (falsify vars (opposite l ∷ known) ls) (λ x. start_none v cs hs vars (opposite l ∷ known) ls o (opposite_true v l ∙ not_from_false _ p.0, r) p.1 x) e

pub follows_true : (v : ℕ → Bool) (vars : ℕ) (cs : List (List Lit)) (line : LogLine) → formula_true v cs ≡ true → follows vars cs line ≡ true → clause_true v line.literals ≡ true
follows_true v vars cs line o e = true_from_ne_false _ (λ f. start_none v cs line.hints vars [] line.literals o tt f e)

log_none : (v : ℕ → Bool) (vars : ℕ) (cs : List (List Lit)) (log : List LogLine) → formula_true v cs ≡ true → all_follow vars cs log ≡ true → ends_empty log ≡ true → ⊥
log_none v vars cs [] o a e = false≢true e
log_none v vars cs (l ∷ []) o a e = empty_none v l.literals (follows_true v vars cs l o (and_parts (follows vars cs l) _ a).0) e
log_none v vars cs (l ∷ m ∷ ls) o a e =
    let p = and_parts (follows vars cs l) _ a in
    log_none v vars (cs ++ (l.literals ∷ [])) (m ∷ ls)
    (list_all-append (clause_true v) cs (l.literals ∷ []) ∙ and_from _ _ o (and_from _ _ (follows_true v vars cs l o p.0) refl)) p.1 e

pub accepted_none : AcceptedMeansNone
accepted_none vars cs log a v o = let p = and_parts (all_follow vars cs log) _ a in log_none v vars cs log o p.0 p.1
