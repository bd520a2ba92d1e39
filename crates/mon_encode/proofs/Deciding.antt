-- The formula of a case is exact, in both directions.
use Rattle.std.proofs.Common.{◌≡◌, ℕ, zero, suc, Bool, true, false, not, ◌&&◌, List, [], ◌∷◌, Option, Some, None, refl, sym, ap, ap₂, subst, ◌∙◌, ◌⊎◌, ⊎_elim, ◌<◌, ◌^◌}
use Rattle.std.specs.Prelude.{nat_lt}
use Rattle.std.specs.List.{slice_get}
use Rattle.std.specs.Option.{option_to_list}
use Rattle.std.proofs.lemmas.List.Folds.{list_all-append}
use Rattle.std.proofs.lemmas.Bool.{cases_Bool, and_parts, and_from, not-true, not_from_false, false≢true, eq-eqb, eqb-true, le-ltb}
use Rattle.mon_cnf.specs.declared.clause.Lit.{Lit}
use Rattle.mon_cnf.specs.Truth.{clause_true, formula_true}
use Rattle.mon_header.specs.declared.class.Class.{Class}
use Rattle.mon_header.specs.declared.header.Header.{Header}
use Rattle.mon_header.specs.Actions.{AllFit}
use Rattle.mon_header.specs.Classes.{is_in_class}
use Rattle.mon_table.specs.declared.rule.Rule.{Rule}
use Rattle.mon_table.specs.declared.edit.Edit.{Edit}
use Rattle.mon_table.specs.declared.edit.Edit.TheVariants as edit
use Rattle.mon_table.specs.Rules.{identity_of, rank, comes_before}
use Rattle.mon_table.specs.Tables.{InOrder, IsTable, AllActionsFit}
use Rattle.mon_table.specs.Edits.{edited, after}
use Rattle.mon_table.specs.Laws.{IsPut}
use Rattle.mon_table.specs.Winners.{winners, may_miss}
use Rattle.mon_table.proofs.Identities.{comes_before-falls}
use Rattle.mon_table.proofs.Listing.{all-has, has-all}
use Rattle.mon_table.proofs.Members.{after-members, after-table}
use Rattle.mon_outcome.specs.declared.emission.Emission.{Emission}
use Rattle.mon_outcome.specs.declared.emission.Emission.TheVariants.{Miss}
use Rattle.mon_outcome.specs.declared.shape.Shape.{Shape}
use Rattle.mon_outcome.specs.Emitting.{any_unknown, must}
use Rattle.mon_outcome.specs.Shaping.{shapes_of, emitted_by}
use Rattle.mon_outcome.proofs.Equality.{emission-same}
use Rattle.mon_shows.specs.Views.{craftable, caught}
use Rattle.mon_shows.specs.Separation.{made_unsure, taken_back, with_update, without_update, is_certain, must_show, may_show, separates}
use Rattle.mon_header.specs.Matching.{IsNormal}
use Rattle.mon_shows.specs.declared.target.Target.{Target}
use Rattle.mon_shows.specs.declared.target.Target.TheVariants.{Put, Cut, Watch}
use Rattle.mon_table.proofs.Keeping.{table-filter}
use Rattle.mon_table.proofs.Vanishing.{no-winner}
use Rattle.mon_encode.proofs.Winners.{place-no-miss, winner-back}
use Rattle.mon_job.specs.Jobs.{Task, IsIn, Kept}
use Rattle.mon_literals.specs.Conditions.{class_clauses}
use Rattle.mon_encode.specs.declared.case.Case.{Case}
use Rattle.mon_encode.specs.Cases.{IsCaseOf, winner_at, shape_at, shape_of, given, present, BelongsTo}
use Rattle.mon_encode.specs.Clauses.{sures, winning}
use Rattle.mon_encode.specs.Formulas.{is_known, comes_back, clauses_in, clauses_of, tagged}
use Rattle.mon_encode.proofs.Fitting.{AllFitFields, shapes-fit}
use Rattle.mon_encode.proofs.Chaining.{Falls, Helped}
use Rattle.mon_encode.proofs.Emitting.{Meets, FitsShape, must-there, must-back, given-caught, given-whole}
use Rattle.mon_encode.proofs.Exact.{Literals, all-read, winning-there, winning-back, missing-there, missing-back, Undone, hiding_clauses, impossible-there, impossible-back}
use Rattle.mon_encode.proofs.Casing.{Founded, case-fact}
use Rattle.mon_encode.proofs.Covering.{crafted, has-tag, separated}

-- the table without the update
order-falls : (t : List Rule) → InOrder t → Falls t
order-falls [] o = tt
order-falls (r ∷ t) o = (
  all-has (λ s. nat_lt (rank r) (rank s) ≡ false) t
      (λ s i. le-ltb (rank r) (rank s) (comes_before-falls (identity_of r) (identity_of s) (has-all (λ s. comes_before (identity_of r) (identity_of s) ≡ true) t s o.0 i))),
  order-falls t o.1,
)

put-fits : (x : Edit) (r : Rule) → IsPut x r → AllFit (edited x).actions → AllFit r.actions
put-fits (edit.Put s old) r p f = subst (λ (y : Rule). AllFit y.actions) (sym p) f
put-fits (edit.Cut s) r p f = absurd p

after-fits : (t : List Rule) (x : Edit) → AllActionsFit t → AllFit (edited x).actions → AllActionsFit (after t x)
after-fits t x a f = all-has (λ r. AllFit r.actions) (after t x) (λ r i. ⊎_elim
    (λ p. put-fits x r p f)
    (λ l. has-all (λ r. AllFit r.actions) t r a l.0)
    (after-members t x r i))

pub undone-is : (v : ℕ → Bool) (h : Header) (j : Task) → Kept j → Literals v h → Undone v h (without_update j.table j.target)
undone-is v h j k l =
    let u = without_update j.table j.target in
    let table : IsTable u = after-table j.table (taken_back j.target) k.table k.back_normal in
    let sure : IsTable (sures u) = table-filter (λ r. not r.unsure) u table in
    record {
      table = table;
      falls = order-falls (sures u) sure.order;
      fit = after-fits j.table (taken_back j.target) k.fit k.back_fit;
      read = all-read v h u l table.normal;
      reads = all-read v h (sures u) l sure.normal;
    }

-- what the clauses of the winner say, and what it must show
record Won (v : ℕ → Bool) (h : Header) (t : List Rule) (c : Case) : Type 0 where
  there : formula_true v (winning c.winner t) ≡ true → winners t h ≡ option_to_list (winner_at t c.winner)
  back : winners t h ≡ option_to_list (winner_at t c.winner) → formula_true v (winning c.winner t) ≡ true
  fit : FitsShape (shape_of t c)
  sure : Meets c.class c.in_port h → winners t h ≡ option_to_list (winner_at t c.winner) → is_known (winner_at t c.winner) ≡ true → (given (shape_of t c) h).1 ≡ true
      → must_show t h (given (shape_of t c) h).0 ≡ true
  known : (e : Emission) → Meets c.class c.in_port h → winners t h ≡ option_to_list (winner_at t c.winner) → must_show t h e ≡ true → is_known (winner_at t c.winner) ≡ true

rule-fits : (t : List Rule) (place : ℕ) (r : Rule) → AllActionsFit t → slice_get t place ≡ Some r → AllFit r.actions
rule-fits [] place r a g = absurd (let z : ⊥ = cc in z)
rule-fits (x ∷ t) zero r a g = let same : x ≡ r = cc in subst (λ (y : Rule). AllFit y.actions) same a.0
rule-fits (x ∷ t) (suc place) r a g = rule-fits t place r a.1 g

shape-fits : (shapes : List Shape) (position : ℕ) (shape : Shape) → AllFitFields shapes → slice_get shapes position ≡ Some shape → FitsShape (Some shape)
shape-fits [] position shape a g = absurd (let z : ⊥ = cc in z)
shape-fits (x ∷ shapes) zero shape a g = let same : x ≡ shape = cc in subst (λ (y : Shape). FitsShape (Some y)) same a.0
shape-fits (x ∷ shapes) (suc position) shape a g = shape-fits shapes position shape a.1 g

miss-won : (v : ℕ → Bool) (h : Header) (t : List Rule) (class : Class) (in_port : ℕ) (emission : ℕ) → Literals v h → IsTable t → Won v h t (record { class = class; in_port = in_port; winner = None; emission = emission })
miss-won v h t class in_port emission l table =
    let read = all-read v h t l table.normal in
    record {
      there = λ f. missing-there v h t read f;
      back = λ e. missing-back v h t table.order read e;
      fit = tt;
      sure = λ m e k w.
          ap₂ (λ (ws : List Rule) (b : Bool). is_certain ws b h (Miss h)) e (no-winner t h table.order e) ∙ (emission-same (Miss h) (Miss h)).1 refl;
      known = λ e m n s. refl;
    }

rule-won : (v : ℕ → Bool) (h : Header) (t : List Rule) (class : Class) (in_port place : ℕ) (r : Rule) (emission : ℕ) (shape : Shape) → Literals v h → IsTable t → AllActionsFit t → slice_get t place ≡ Some r → r.unsure ≡ false
    → slice_get (shapes_of r.actions class in_port) emission ≡ Some shape → Won v h t (record { class = class; in_port = in_port; winner = Some place; emission = emission })
rule-won v h t class in_port place r emission shape l table fits g u s =
    let read = all-read v h t l table.normal in
    let list : option_to_list (winner_at t (Some place)) ≡ r ∷ [] = ap option_to_list g in
    let is : shape_at (winner_at t (Some place)) class in_port emission ≡ Some shape = ap (λ (o : Option Rule). shape_at o class in_port emission) g ∙ s in
    record {
      there = λ f. winning-there v h t place r read g u f ∙ sym list;
      back = λ e. winning-back v h t place r read g (e ∙ list);
      fit = subst FitsShape (sym is) (shape-fits (shapes_of r.actions class in_port) emission shape (shapes-fit class in_port r.actions (rule-fits t place r fits g)) s);
      sure = λ m e k w.
          let known : any_unknown r.actions ≡ false = not-true _ (subst (λ (o : Option Rule). is_known o ≡ true) g k) in
          let whole : (emitted_by h shape).1 ≡ true = sym (ap (λ (o : Option Shape). (given o h).1) is) ∙ w in
          let miss : may_miss t h ≡ false = place-no-miss t h place r g u (winner-back h place r t g (e ∙ list)).0 in
          ap₂ (λ (ws : List Rule) (b : Bool). is_certain ws b h (given (shape_at (winner_at t (Some place)) class in_port emission) h).0) (e ∙ list) miss
          ∙ (subst (λ (o : Option Shape). must r.actions h (given o h).0 ≡ true) (sym is) (must-there r.actions class in_port h emission shape m known s whole));
      known = λ e m n y.
          let lone : is_certain (r ∷ []) (may_miss t h) h e ≡ true = subst (λ (ws : List Rule). is_certain ws (may_miss t h) h e ≡ true) (n ∙ list) y in
          subst (λ (o : Option Rule). is_known o ≡ true) (sym g) (not_from_false _ (must-back r.actions class in_port h e m (and_parts (not (may_miss t h)) _ lone).1).0);
    }

won-by : (v : ℕ → Bool) (h : Header) (t : List Rule) (class : Class) (in_port emission : ℕ) (winner : Option ℕ) → Literals v h → IsTable t → AllActionsFit t
    → (winner ≡ None) ⊎ Founded t (record { class = class; in_port = in_port; winner = winner; emission = emission })
    → Won v h t (record { class = class; in_port = in_port; winner = winner; emission = emission })
won-by v h t class in_port emission None l table fits f = miss-won v h t class in_port emission l table
won-by v h t class in_port emission (Some place) l table fits f = ⊎_elim
    (λ (n : Some place ≡ None). absurd (let z : ⊥ = cc in z))
    (λ (g : Founded t (record { class = class; in_port = in_port; winner = Some place; emission = emission })).
    let same : place ≡ g.place = let e : Some place ≡ Some g.place = g.winner in cc in
    rule-won v h t class in_port place g.rule emission g.shape l table fits (ap (slice_get t) same ∙ g.rule_there) g.sure g.shape_there)
    f

-- the table with the update there for sure
with-table : (t : List Rule) (x : Target) → IsTable t → IsIn t x → IsTable (with_update t x)
with-table t (Put r old) table has = after-table t (edit.Put (made_unsure false r) None) table (has-all (λ s. IsNormal s.matching) t r table.normal has)
with-table t (Cut r) table has = table
with-table t (Watch r) table has = after-table t (edit.Put (made_unsure false r) None) table (has-all (λ s. IsNormal s.matching) t r table.normal has)

with-fits : (t : List Rule) (x : Target) → AllActionsFit t → IsIn t x → AllActionsFit (with_update t x)
with-fits t (Put r old) fit has = after-fits t (edit.Put (made_unsure false r) None) fit (has-all (λ s. AllFit s.actions) t r fit has)
with-fits t (Cut r) fit has = fit
with-fits t (Watch r) fit has = after-fits t (edit.Put (made_unsure false r) None) fit (has-all (λ s. AllFit s.actions) t r fit has)

present-table : (j : Task) → Kept j → IsTable (present j)
present-table j k = with-table j.table j.target k.table k.job.there

present-fits : (j : Task) → Kept j → AllActionsFit (present j)
present-fits j k = with-fits j.table j.target k.fit k.job.there

won : (v : ℕ → Bool) (h : Header) (j : Task) (c : Case) → Literals v h → Kept j → IsCaseOf j c → Won v h (present j) c
won v h j c l k i =
    won-by v h (present j) c.class c.in_port c.emission c.winner l (present-table j k) (present-fits j k) (case-fact j c k.table k.job.there i).founded

-- a case's clauses without the empty one
abbrev whole_clauses : Task → Case → List (List Lit)
whole_clauses j c = clauses_in j.view (present j) (without_update j.table j.target) c

-- what separates, from its parts
joined : (j : Task) (h : Header) (e : Emission) → craftable j.view h ≡ true → must_show (present j) h e ≡ true → caught j.view e ≡ true
    → not (may_show (without_update j.table j.target) h e) ≡ true → separates j.view j.table j.target h e ≡ true
unfolding separates
joined j h e a b c d = and_from _ _ a (and_from _ _ b (and_from _ _ c d))

-- what a model bears separates, and belongs to the case
whole-there : (v : ℕ → Bool) (h : Header) (j : Task) (c : Case) → c.in_port < 2 ^ 16 → Literals v h → Kept j → IsCaseOf j c → is_known (winner_at (present j) c.winner) ≡ true → comes_back j.view (shape_of (present j) c) ≡ true
    → formula_true v (whole_clauses j c) ≡ true → (separates j.view j.table j.target h (given (shape_of (present j) c) h).0 ≡ true) × BelongsTo j c h (given (shape_of (present j) c) h).0
whole-there v h j c small l k i known back f =
    let u = without_update j.table j.target in
    let shape = shape_of (present j) c in
    let e = (given shape h).0 in
    let fact = case-fact j c k.table k.job.there i in
    let p = and_parts (formula_true v (class_clauses j.view c.class c.in_port)) _ (sym (list_all-append (clause_true v) (class_clauses j.view c.class c.in_port) _) ∙ f) in
    let q = and_parts (formula_true v (winning c.winner (present j))) _ (sym (list_all-append (clause_true v) (winning c.winner (present j)) (hiding_clauses c.class c.in_port shape u)) ∙ p.1) in
    let a = and_parts (craftable j.view h) _ (sym (l.class j.view c.class c.in_port k.view small fact.link) ∙ p.0) in
    let b = and_parts (is_in_class c.class h) _ a.1 in
    let tag = (crafted j.view h a.0).tag in
    let port : h.in_port ≡ c.in_port = eqb-true h.in_port c.in_port b.1 in
    let meets : Meets c.class c.in_port h = record { is_class = b.0; came_in = port; has_tag = has-tag j.view h k.view tag } in
    let w = won v h j c l k i in
    let n : winners (present j) h ≡ option_to_list (winner_at (present j) c.winner) = w.there q.0 in
    let d = and_parts (given shape (tagged j.view.tag)).1 _ back in
    let whole : (given shape h).1 ≡ true = given-whole shape h (tagged j.view.tag) ∙ d.0 in
    let impossible : not (may_show u h e) ≡ true = impossible-there v h c.class c.in_port shape u (undone-is v h j k l) l w.fit meets q.1 in (
      joined j h e a.0 (w.sure meets n known whole) (given-caught j.view shape h j.view.tag tag ∙ d.1) impossible,
      record { class = b.0; in_port = port; winner = n; emission = λ x. (e, whole x) },
    )

pub models-show : (v : ℕ → Bool) (h : Header) (j : Task) (c : Case) → c.in_port < 2 ^ 16 → Literals v h → Kept j → IsCaseOf j c → formula_true v (clauses_of j c) ≡ true
    → (separates j.view j.table j.target h (given (shape_of (present j) c) h).0 ≡ true) × BelongsTo j c h (given (shape_of (present j) c) h).0
unfolding clauses_of
models-show v h j c small l k i f =
    let known = is_known (winner_at (present j) c.winner) in
    let back = comes_back j.view (shape_of (present j) c) in
    ⊎_elim
    (λ (y : (known && back) ≡ true).
    let p = and_parts known back y in
    whole-there v h j c small l k i p.0 p.1 (rw y at f))
    (λ (y : (known && back) ≡ false). absurd (let z : false ≡ true = rw y at f in false≢true z))
    (cases_Bool (known && back))

-- and each header that separates and belongs to the case satisfies its clauses, with helpers as they should be
pub showing-satisfies : (v : ℕ → Bool) (h : Header) (e : Emission) (j : Task) (c : Case) → c.in_port < 2 ^ 16 → Literals v h → Kept j → IsCaseOf j c → Helped v 264 false (sures (without_update j.table j.target))
    → separates j.view j.table j.target h e ≡ true → BelongsTo j c h e → formula_true v (clauses_of j c) ≡ true
unfolding clauses_of
showing-satisfies v h e j c small l k i helped y o =
    let u = without_update j.table j.target in
    let shape = shape_of (present j) c in
    let s = separated j.view j.table j.target h e y in
    let g = crafted j.view h s.crafted in
    let fact = case-fact j c k.table k.job.there i in
    let meets : Meets c.class c.in_port h = record { is_class = o.class; came_in = o.in_port; has_tag = has-tag j.view h k.view g.tag } in
    let w = won v h j c l k i in
    let is : (given shape h).0 ≡ e = ap (λ (m : Emission × Bool). m.0) o.emission in
    let whole : (given shape (tagged j.view.tag)).1 ≡ true = given-whole shape (tagged j.view.tag) h ∙ ap (λ (m : Emission × Bool). m.1) o.emission in
    let back : caught j.view (given shape (tagged j.view.tag)).0 ≡ true = sym (given-caught j.view shape h j.view.tag g.tag) ∙ (ap (caught j.view) is ∙ s.back) in
    let known : is_known (winner_at (present j) c.winner) ≡ true = w.known e meets o.winner s.sure in
    let test : (is_known (winner_at (present j) c.winner) && comes_back j.view shape) ≡ true = and_from _ _ known (and_from _ _ whole back) in
    let class : formula_true v (class_clauses j.view c.class c.in_port) ≡ true =
    l.class j.view c.class c.in_port k.view small fact.link ∙ and_from _ _ s.crafted (and_from _ _ o.class (eq-eqb h.in_port c.in_port o.in_port)) in
    let impossible : not (may_show u h (given shape h).0) ≡ true = not_from_false _ (ap (may_show u h) is ∙ s.impossible) in
    rw test (
    list_all-append (clause_true v) (class_clauses j.view c.class c.in_port) _
    ∙ and_from _ _ class
    (list_all-append (clause_true v) (winning c.winner (present j)) (hiding_clauses c.class c.in_port shape u)
    ∙ and_from _ _ (w.back o.winner) (impossible-back v h c.class c.in_port shape u (undone-is v h j k l) l w.fit meets helped impossible))
    )
