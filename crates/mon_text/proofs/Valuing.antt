-- The table of digits.
use Rattle.std.proofs.Common.{◌≡◌, ℕ, zero, suc, ◌+◌, ◌<◌, Bool, true, false, List, [], ◌∷◌, length, Option, Some, None, refl, sym, ap, subst, ◌∙◌, arith, add-zero}
use Rattle.std.specs.Prelude.{eqb, ◌&&◌, slice_index}
use Rattle.std.proofs.lemmas.Bool.{eqb-true, and_parts}
use Rattle.mon_text.specs.declared.hexadecimal.TheConstants.{VALUES}
use Rattle.mon_text.specs.Hex.{digit_of, digit_in}

abbrev same : Option ℕ → Option ℕ → Bool
same None None = true
same None (Some b) = false
same (Some a) None = false
same (Some a) (Some b) = eqb a b

abbrev all_same : ℕ → List ℕ → Bool
all_same c [] = true
all_same c (value ∷ values) = same (digit_of c) (digit_in value) && all_same (suc c) values

true≢false : true ≡ false → ⊥
true≢false e = let P : Bool → Type 0 = λ b. elim b [ true ↦ Unit {0} | false ↦ ⊥ ] in subst P e tt

same_is : (a b : Option ℕ) → same a b ≡ true → a ≡ b
same_is None None is = refl
same_is None (Some b) is = absurd (true≢false (sym is))
same_is (Some a) None is = absurd (true≢false (sym is))
same_is (Some a) (Some b) is = ap Some (eqb-true a b is)

same_at : (c : ℕ) (values : List ℕ) (n : ℕ) → all_same c values ≡ true → n < length values → digit_of (c + n) ≡ digit_in (slice_index values n)
same_at c [] n all within = absurd (let f : ⊥ = omega arith in f)
same_at c (value ∷ values) zero all within =
    ap digit_of (add-zero c) ∙ same_is (digit_of c) (digit_in value) (and_parts (same (digit_of c) (digit_in value)) (all_same (suc c) values) all).0
same_at c (value ∷ values) (suc n) all within =
    let moved : suc c + n ≡ c + suc n = omega arith in
    ap digit_of (sym moved) ∙ same_at (suc c) values n (and_parts (same (digit_of c) (digit_in value)) (all_same (suc c) values) all).1 (omega arith)

values_are : all_same 0 VALUES ≡ true
unfolding digit_of
values_are = refl

pub value_is : (c : ℕ) → c < 256 → digit_of c ≡ digit_in (slice_index VALUES c)
value_is c small = ap digit_of (let e : c ≡ 0 + c = omega arith in e) ∙ same_at 0 VALUES c values_are small
