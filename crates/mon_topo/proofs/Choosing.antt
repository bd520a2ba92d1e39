-- The tag that a switch takes is none of those that linked switches have.
use Rattle.std.proofs.Common.{◌≡◌, ◌≢◌, ℕ, ◌∙◌, sym, subst, refl, Bool, true, false, not, cond, List, [], ◌∷◌, ◌++◌}
use Rattle.std.specs.Prelude.{Option, Some, None, ◌==◌, if◌then◌else◌}
use Rattle.std.specs.List.{list_any, cons_option}
use Rattle.std.proofs.lemmas.Bool.{or_parts, eq-eqb}
use Rattle.mon_topo.specs.declared.tagged.Tagged.{Tagged}
use Rattle.mon_topo.specs.Links.{or_else}
use Rattle.mon_topo.specs.Tags.{tag_of, first_free}

-- a number is among these
abbrev pub is_among : List ℕ → ℕ → Bool
is_among tags tag = list_any (λ other. other == tag) tags

by_test : (had tags : List ℕ) (x tag : ℕ) (test : Bool) → is_among had x ≡ test
    → cond (not test) (Some x) (first_free had tags) ≡ Some tag
    → (first_free had tags ≡ Some tag → is_among had tag ≡ false)
    → is_among had tag ≡ false
by_test had tags x tag true among is rest = rest is
by_test had tags x tag false among is rest =
    let same : x ≡ tag = cc in
    subst (λ (n : ℕ). is_among had n ≡ false) same among

pub first_free-untaken : (had tags : List ℕ) (tag : ℕ) → first_free had tags ≡ Some tag → is_among had tag ≡ false
first_free-untaken had [] tag is = cc
first_free-untaken had (x ∷ xs) tag is =
    by_test had xs x tag (is_among had x) refl is (first_free-untaken had xs tag)

-- what is not among some and one more is neither
pub among-more : (one : Option ℕ) (rest : List ℕ) (tag : ℕ) → is_among (cons_option one rest) tag ≡ false
    → (one ≢ Some tag) × (is_among rest tag ≡ false)
among-more None rest tag h = ((λ e. cc), h)
among-more (Some u) rest tag h =
    let parts = or_parts (u == tag) (is_among rest tag) h in (
      (λ e. let same : u ≡ tag = cc in
          let test : (u == tag) ≡ true = eq-eqb u tag same in
          let clash : true ≡ false = sym test ∙ parts.0 in
          cc),
      parts.1,
    )

-- the tag of a switch after one more was given
pub tag_of-more : (switch : ℕ) (given : List Tagged) (t : Tagged)
    → tag_of switch (given ++ t ∷ []) ≡ or_else (tag_of switch given) (if t.switch == switch then Some t.tag else None)
tag_of-more switch [] t = refl
tag_of-more switch (g ∷ gs) t = after_test (g.switch == switch) (tag_of-more switch gs t)
  where
    after_test : (test : Bool)
        → tag_of switch (gs ++ t ∷ []) ≡ or_else (tag_of switch gs) (if t.switch == switch then Some t.tag else None)
        → (if test then Some g.tag else tag_of switch (gs ++ t ∷ [])) ≡ or_else (if test then Some g.tag else tag_of switch gs) (if t.switch == switch then Some t.tag else None)
    after_test true rest = refl
    after_test false rest = rest

-- the tags of both ends, once one of the two may have been given
pub ends-differ : (a b : Option ℕ) (is_a is_b : Bool) (tag u : ℕ)
    → (is_a ≡ true → is_b ≡ true → ⊥)
    → (is_a ≡ true → b ≢ Some tag) → (is_a ≡ false → is_b ≡ true → a ≢ Some tag)
    → ((v : ℕ) → a ≡ Some v → b ≢ Some v)
    → or_else a (if is_a then Some tag else None) ≡ Some u
    → or_else b (if is_b then Some tag else None) ≢ Some u
ends-differ (Some x) (Some y) is_a is_b tag u apart far_b far_a old has both = old u has both
ends-differ (Some x) None is_a false tag u apart far_b far_a old has both = cc
ends-differ (Some x) None true true tag u apart far_b far_a old has both = apart refl refl
ends-differ (Some x) None false true tag u apart far_b far_a old has both =
    far_a refl refl (has ∙ sym both)
ends-differ None (Some y) false is_b tag u apart far_b far_a old has both = cc
ends-differ None (Some y) true is_b tag u apart far_b far_a old has both =
    far_b refl (both ∙ sym has)
ends-differ None None false is_b tag u apart far_b far_a old has both = cc
ends-differ None None true true tag u apart far_b far_a old has both = apart refl refl
ends-differ None None true false tag u apart far_b far_a old has both = cc
