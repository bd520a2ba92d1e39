-- How two rewrites are gone through field by field.
use Rattle.std.proofs.Common.{◌≡◌, ℕ, ◌+◌, List, [], ◌∷◌, drop, Option, Some, None, refl, ap, ◌∙◌, arith}
use Rattle.mon_cnf.specs.declared.clause.Lit.{Lit}
use Rattle.mon_outcome.specs.declared.rewrite.Rewrite.{Rewrite}
use Rattle.mon_outcome.specs.Filling.{laid}
use Rattle.mon_literals.specs.Differing.{either_differs, fields_differ, differ}

-- how many bits the fields have
abbrev pub widths : List (ℕ × Option ℕ) → ℕ
widths [] = 0
widths (field ∷ fields) = field.0 + widths fields

pub laid_widths : (r : Rewrite) → widths (laid r) ≡ 264
unfolding laid
laid_widths r = refl

-- the literals so far, before those of the fields that are left; the places of those are below 264
pub record Walks (a b : Rewrite) (xs ys : List (ℕ × Option ℕ)) (i start : ℕ) (literals : List Lit) : Type 0 where
  pub one : xs ≡ laid a
  pub other : ys ≡ laid b
  pub so_far : either_differs (Some literals) (fields_differ start (drop i xs) (drop i ys)) ≡ differ a b
  pub left : start + widths (drop i xs) ≡ 264

either_none : (d : Option (List Lit)) → either_differs (Some []) d ≡ d
either_none None = refl
either_none (Some ls) = refl

pub walk_start : (a b : Rewrite) (xs ys : List (ℕ × Option ℕ)) (literals : List Lit) → xs ≡ laid a → ys ≡ laid b → literals ≡ []
    → Walks a b xs ys 0 0 literals
walk_start a b xs ys literals one other e = record {
  one = one;
  other = other;
  so_far =
      ap (λ (ls : List Lit). either_differs (Some ls) (fields_differ 0 xs ys)) e
      ∙ either_none (fields_differ 0 xs ys)
      ∙ ap (λ (zs : List (ℕ × Option ℕ)). fields_differ 0 zs ys) one
      ∙ ap (fields_differ 0 (laid a)) other;
  left = let all : 0 + widths xs ≡ widths xs = omega arith in all ∙ ap widths one ∙ laid_widths a;
}
