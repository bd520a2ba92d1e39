-- The clauses of a case are exact, in both directions.
use Rattle.std.proofs.Common.{◌≡◌, ℕ, zero, suc, Bool, true, false, not, ◌&&◌, ◌||◌, List, [], ◌∷◌, ◌++◌, Option, Some, None, refl, sym, ap, subst, ◌∙◌, ◌<◌, ◌^◌}
use Rattle.std.specs.Prelude.{◌==◌}
use Rattle.std.specs.List.{slice_get, list_any, list_all}
use Rattle.std.proofs.lemmas.List.Folds.{list_all-append, list_any-append}
use Rattle.std.proofs.lemmas.Bool.{and_parts, and_from, or_left, or_right, not_from_false, false≢true}
use Rattle.mon_cnf.specs.declared.clause.Lit.{Lit}
use Rattle.mon_cnf.specs.Truth.{lit_true, clause_true, formula_true}
use Rattle.mon_header.specs.declared.class.Class.{Class}
use Rattle.mon_header.specs.declared.header.Header.{Header}
use Rattle.mon_header.specs.Actions.{AllFit}
use Rattle.mon_header.specs.Classes.{is_in_class}
use Rattle.mon_header.specs.Matching.{Matching, IsNormal, matches}
use Rattle.mon_table.specs.declared.rule.Rule.{Rule}
use Rattle.mon_table.specs.Rules.{rank}
use Rattle.mon_table.specs.Tables.{InOrder, AllNormal, IsTable, AllActionsFit}
use Rattle.mon_table.specs.Winners.{wins, winners}
use Rattle.mon_outcome.specs.declared.emission.Emission.TheVariants.{Miss}
use Rattle.mon_outcome.specs.declared.shape.Shape.{Shape}
use Rattle.mon_outcome.specs.Emitting.{may}
use Rattle.mon_outcome.specs.Filling.{filled}
use Rattle.mon_outcome.specs.Shaping.{emitted_by}
use Rattle.mon_outcome.proofs.Equality.{emission-same}
use Rattle.mon_shows.specs.Views.{Viewing, IsView, has_link, craftable}
use Rattle.mon_shows.specs.Separation.{is_miss, may_show}
use Rattle.mon_literals.specs.Patterns.{pattern_of}
use Rattle.mon_literals.proofs.Truths.{alone_true}
use Rattle.mon_literals.specs.Conditions.{class_clauses}
use Rattle.mon_literals.specs.Clauses.{alone}
use Rattle.mon_encode.specs.Cases.{given}
use Rattle.mon_encode.specs.Clauses.{sures, unmatched, beaten, winning, chain, above, matched, or_hidden, hidden, not_missed}
use Rattle.mon_encode.proofs.Truth.{fits, Read, unmatched_true, none_true, all_lose, beaten_true}
use Rattle.mon_encode.proofs.Chaining.{Falls, Helped, is_above, above_there, matched_there, chain_back, above_back, matched_back}
use Rattle.mon_encode.proofs.Winners.{winner-there, winner-back, miss-there, miss-back}
use Rattle.mon_encode.proofs.Possible.{all_hidden, hidden-is, wins-is}
use Rattle.mon_encode.proofs.Emitting.{Meets, Differs, FitsShape, never-miss, or-hidden-true}

-- what the literals of an assignment say of a header
pub record Literals (v : ℕ → Bool) (h : Header) : Type 0 where
  pub reads : (m : Matching) → IsNormal m → list_all (lit_true v) (pattern_of m) ≡ matches m h
  pub differs : Differs v h
  pub class : (view : Viewing) (c : Class) (in_port : ℕ) → IsView view → in_port < 2 ^ 16 → has_link in_port view.links ≡ true
      → formula_true v (class_clauses view c in_port) ≡ (craftable view h && (is_in_class c h && (h.in_port == in_port)))

pub all-read : (v : ℕ → Bool) (h : Header) (t : List Rule) → Literals v h → AllNormal t → Read v h t
all-read v h [] l n = tt
all-read v h (r ∷ t) l n = (l.reads r.matching n.0, all-read v h t l n.1)

read-at : (v : ℕ → Bool) (h : Header) (t : List Rule) (place : ℕ) (w : Rule) → Read v h t → slice_get t place ≡ Some w → fits v w ≡ matches w.matching h
read-at v h [] place w read g = absurd (let z : ⊥ = cc in z)
read-at v h (r ∷ t) zero w read g = let same : r ≡ w = cc in subst (λ (x : Rule). fits v x ≡ matches x.matching h) same read.0
read-at v h (r ∷ t) (suc place) w read g = read-at v h t place w read.1 g

-- the winner
some-winner : (v : ℕ → Bool) (h : Header) (t : List Rule) (place : ℕ) (w : Rule) → Read v h t → slice_get t place ≡ Some w
    → formula_true v (winning (Some place) t) ≡ (matches w.matching h && all_lose h place (rank w) 0 t)
some-winner v h t place w read g =
    rw g (
    list_all-append (clause_true v) (alone (pattern_of w.matching)) (beaten place (rank w) 0 t)
    ∙ (ap (λ (a : Bool). a && formula_true v (beaten place (rank w) 0 t)) (alone_true v (pattern_of w.matching) ∙ read-at v h t place w read g)
    ∙ ap (λ (b : Bool). matches w.matching h && b) (beaten_true v h place (rank w) 0 t read))
    )

pub winning-there : (v : ℕ → Bool) (h : Header) (t : List Rule) (place : ℕ) (w : Rule) → Read v h t → slice_get t place ≡ Some w → w.unsure ≡ false
    → formula_true v (winning (Some place) t) ≡ true → winners t h ≡ w ∷ []
winning-there v h t place w read g u f =
    let p = and_parts (matches w.matching h) _ (sym (some-winner v h t place w read g) ∙ f) in
    winner-there h place w t g u p.0 p.1

pub winning-back : (v : ℕ → Bool) (h : Header) (t : List Rule) (place : ℕ) (w : Rule) → Read v h t → slice_get t place ≡ Some w
    → winners t h ≡ w ∷ [] → formula_true v (winning (Some place) t) ≡ true
winning-back v h t place w read g e =
    let p = winner-back h place w t g e in
    some-winner v h t place w read g ∙ and_from _ _ p.0 p.1

pub missing-there : (v : ℕ → Bool) (h : Header) (t : List Rule) → Read v h t → formula_true v (winning None t) ≡ true → winners t h ≡ []
missing-there v h t read f = miss-there h t (sym (none_true v h t read) ∙ f)

pub missing-back : (v : ℕ → Bool) (h : Header) (t : List Rule) → InOrder t → Read v h t → winners t h ≡ [] → formula_true v (winning None t) ≡ true
missing-back v h t order read e = none_true v h t read ∙ miss-back h t order e

-- what the table without the update cannot show
there : (f o a m : Bool) → (o ≡ true → a ≡ true) → ((not f || o) || not m) ≡ true → not ((f && not a) && m) ≡ true
there true true a m g e = rw (g refl) refl
there true false a true g e = absurd (false≢true e)
there true false true false g e = refl
there true false false false g e = refl
there false o a m g e = refl

back : (f o a m : Bool) → (a ≡ true → o ≡ true) → not ((f && not a) && m) ≡ true → ((not f || o) || not m) ≡ true
back true o true m g e = rw (g refl) refl
back true true false m g e = refl
back true false false true g e = e
back true false false false g e = refl
back false o a m g e = refl

record Hiding (v : ℕ → Bool) (h : Header) (class : Class) (in_port : ℕ) (shape : Option Shape) : Type 0 where
  differs : Differs v h
  fit : FitsShape shape
  meets : Meets class in_port h

rule-is : (v : ℕ → Bool) (h : Header) (class : Class) (in_port : ℕ) (shape : Option Shape) (o : List Lit) (r : Rule) → Hiding v h class in_port shape → AllFit r.actions
    → formula_true v (or_hidden (unmatched r ++ o) class in_port shape r) ≡ ((not (fits v r) || clause_true v o) || not (may r.actions h (given shape h).0))
rule-is v h class in_port shape o r hiding fit =
    or-hidden-true v h (unmatched r ++ o) class in_port shape r hiding.differs hiding.fit fit hiding.meets
    ∙ ap (λ (b : Bool). b || not (may r.actions h (given shape h).0))
    (list_any-append (lit_true v) (unmatched r) o ∙ ap (λ (b : Bool). b || clause_true v o) (unmatched_true v r))

hidden-there : (v : ℕ → Bool) (h : Header) (class : Class) (in_port : ℕ) (shape : Option Shape) (k : ℕ) (whole t : List Rule) → Hiding v h class in_port shape → AllActionsFit t → Read v h (sures whole) → Read v h t
    → ((n : ℕ) → clause_true v (above k [] n (sures whole)) ≡ true → list_any (is_above v n) (sures whole) ≡ true)
    → formula_true v (hidden k class in_port shape (sures whole) t) ≡ true → all_hidden h (given shape h).0 whole t ≡ true
hidden-there v h class in_port shape k whole [] hiding fit all read g f = refl
hidden-there v h class in_port shape k whole (r ∷ t) hiding fit all read g f =
    let o = above k [] (rank r) (sures whole) in
    let e = (given shape h).0 in
    let p = and_parts (formula_true v (or_hidden (unmatched r ++ o) class in_port shape r)) _ (sym (list_all-append (clause_true v) (or_hidden (unmatched r ++ o) class in_port shape r) _) ∙ f) in
    and_from _ _
    (ap (λ (b : Bool). not (b && may r.actions h e)) (wins-is v h whole r all read.0)
    ∙ there (fits v r) (clause_true v o) (list_any (is_above v (rank r)) (sures whole)) (may r.actions h e) (g (rank r)) (sym (rule-is v h class in_port shape o r hiding fit.0) ∙ p.0))
    (hidden-there v h class in_port shape k whole t hiding fit.1 all read.1 g p.1)

hidden-back : (v : ℕ → Bool) (h : Header) (class : Class) (in_port : ℕ) (shape : Option Shape) (k : ℕ) (whole t : List Rule) → Hiding v h class in_port shape → AllActionsFit t → Read v h (sures whole) → Read v h t
    → ((n : ℕ) → list_any (is_above v n) (sures whole) ≡ true → clause_true v (above k [] n (sures whole)) ≡ true)
    → all_hidden h (given shape h).0 whole t ≡ true → formula_true v (hidden k class in_port shape (sures whole) t) ≡ true
hidden-back v h class in_port shape k whole [] hiding fit all read g f = refl
hidden-back v h class in_port shape k whole (r ∷ t) hiding fit all read g f =
    let o = above k [] (rank r) (sures whole) in
    let e = (given shape h).0 in
    let p = and_parts (not (wins whole h r && may r.actions h e)) _ f in
    list_all-append (clause_true v) (or_hidden (unmatched r ++ o) class in_port shape r) _
    ∙ and_from _ _
    (rule-is v h class in_port shape o r hiding fit.0
    ∙ back (fits v r) (clause_true v o) (list_any (is_above v (rank r)) (sures whole)) (may r.actions h e) (g (rank r)) (ap (λ (b : Bool). not (b && may r.actions h e)) (sym (wins-is v h whole r all read.0)) ∙ p.0))
    (hidden-back v h class in_port shape k whole t hiding fit.1 all read.1 g p.1)

-- whether the emission is a miss
no-miss : (h : Header) (shape : Shape) → is_miss h (emitted_by h shape).0 ≡ false
no-miss h shape = never-miss (filled shape.bits h) h shape.door

any-read : (v : ℕ → Bool) (h : Header) (t : List Rule) → Read v h t → list_any (fits v) t ≡ list_any (λ r. matches r.matching h) t
any-read v h [] read = refl
any-read v h (r ∷ t) read = ap (λ (b : Bool). b || list_any (fits v) t) read.0 ∙ ap (λ (b : Bool). matches r.matching h || b) (any-read v h t read.1)

missed-there : (v : ℕ → Bool) (h : Header) (shape : Option Shape) (k : ℕ) (t : List Rule) → (clause_true v (matched k [] t) ≡ true → list_any (λ r. matches r.matching h) t ≡ true)
    → formula_true v (not_missed k shape t) ≡ true → (not (is_miss h (given shape h).0) || list_any (λ r. matches r.matching h) t) ≡ true
missed-there v h None k t g f = or_right _ _ (g (and_parts (clause_true v (matched k [] t)) _ f).0)
missed-there v h (Some shape) k t g f = or_left _ _ (not_from_false _ (no-miss h shape))

missed-back : (v : ℕ → Bool) (h : Header) (shape : Option Shape) (k : ℕ) (t : List Rule) → (list_any (λ r. matches r.matching h) t ≡ true → clause_true v (matched k [] t) ≡ true)
    → (not (is_miss h (given shape h).0) || list_any (λ r. matches r.matching h) t) ≡ true → formula_true v (not_missed k shape t) ≡ true
missed-back v h None k t g f =
    let own : is_miss h (Miss h) ≡ true = (emission-same (Miss h) (Miss h)).1 refl in
    and_from _ _ (g (rw own at f)) refl
missed-back v h (Some shape) k t g f = refl

-- all that the clauses say of the table without the update
pub record Undone (v : ℕ → Bool) (h : Header) (t : List Rule) : Type 0 where
  pub table : IsTable t
  pub falls : Falls (sures t)
  pub fit : AllActionsFit t
  pub read : Read v h t
  pub reads : Read v h (sures t)

abbrev pub hiding_clauses : Class → ℕ → Option Shape → List Rule → List (List Lit)
hiding_clauses class in_port shape t = chain 264 [] (sures t) ++ (hidden 264 class in_port shape (sures t) t ++ not_missed 264 shape (sures t))

pub impossible-there : (v : ℕ → Bool) (h : Header) (class : Class) (in_port : ℕ) (shape : Option Shape) (t : List Rule) → Undone v h t → Literals v h → FitsShape shape → Meets class in_port h
    → formula_true v (hiding_clauses class in_port shape t) ≡ true → not (may_show t h (given shape h).0) ≡ true
impossible-there v h class in_port shape t u l fit meets f =
    let p = and_parts (formula_true v (chain 264 [] (sures t))) _ (sym (list_all-append (clause_true v) (chain 264 [] (sures t)) _) ∙ f) in
    let q = and_parts (formula_true v (hidden 264 class in_port shape (sures t) t)) _ (sym (list_all-append (clause_true v) (hidden 264 class in_port shape (sures t) t) _) ∙ p.1) in
    hidden-is h (given shape h).0 t
    ∙ and_from _ _
    (hidden-there v h class in_port shape 264 t t (record { differs = l.differs; fit = fit; meets = meets }) u.fit u.reads u.read
    (λ n e. above_there v 264 [] n (sures t) false p.0 (λ x. x) e) q.0)
    (missed-there v h shape 264 (sures t) (λ e. sym (any-read v h (sures t) u.reads) ∙ matched_there v 264 [] (sures t) false p.0 (λ x. x) e) q.1)

pub impossible-back : (v : ℕ → Bool) (h : Header) (class : Class) (in_port : ℕ) (shape : Option Shape) (t : List Rule) → Undone v h t → Literals v h → FitsShape shape → Meets class in_port h
    → Helped v 264 false (sures t) → not (may_show t h (given shape h).0) ≡ true → formula_true v (hiding_clauses class in_port shape t) ≡ true
impossible-back v h class in_port shape t u l fit meets helped f =
    let p = and_parts (all_hidden h (given shape h).0 t t) _ (sym (hidden-is h (given shape h).0 t) ∙ f) in
    list_all-append (clause_true v) (chain 264 [] (sures t)) _ ∙ and_from _ _ (chain_back v 264 [] (sures t) false helped (λ x. x))
    (list_all-append (clause_true v) (hidden 264 class in_port shape (sures t) t) _ ∙ and_from _ _
    (hidden-back v h class in_port shape 264 t t (record { differs = l.differs; fit = fit; meets = meets }) u.fit u.reads u.read
    (λ n e. above_back v 264 [] n (sures t) false helped u.falls (λ x. x) e) p.0)
    (missed-back v h shape 264 (sures t) (λ e. matched_back v 264 [] (sures t) false helped (λ x. x) (any-read v h (sures t) u.reads ∙ e)) p.1))
