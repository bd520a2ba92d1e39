-- Lines of one kind, read one after the other.
use Rattle.std.proofs.Common.{◌≡◌, ℕ, ◌<◌, refl, sym, ap, ◌∙◌, List, [], ◌∷◌, ◌++◌, length, Some, None, option_map, arith, length-append}
use Rattle.std.specs.List.{AllByRecursion}
use Rattle.std.proofs.lemmas.Option.{none-some, some_pair_parts}
use Rattle.mon_text.specs.Parts.{Part}
use Rattle.mon_text.proofs.Joining.{IsReader, mapped, pair_is}
use Rattle.mon_table.specs.declared.rule.Rule.{Rule}
use Rattle.mon_table_file.specs.Lines.{Row, rule_given}
use Rattle.mon_table_file.specs.Reading.{with_rule}

module _ {X : Type 0} (line : X → List ℕ) (Fits : X → Type 0) (part : List ℕ → Part X) (reads : IsReader line Fits part) where
  -- a line has a byte at least, so the text gets shorter
  pub shorter : ((x : X) → 0 < length (line x)) → (rest after : List ℕ) (x : X) → part rest ≡ Some (x, after) → length after < length rest
  shorter some rest after x e =
      let r = reads.found rest x after e in
      omega (arith, some x, ap length r.1, length-append (line x) after)

  -- the line that stands there is the one that is read
  pub same_line : (back after rest : List ℕ) (x y : X) → part back ≡ Some (x, after) → Fits y → back ≡ line y ++ rest → y ≡ x
  same_line back after rest x y e f is = (some_pair_parts y x rest after (sym (reads.again y rest f) ∙ ap part (sym is) ∙ e)).0

  -- none stands where none is read
  pub not_read : (back rest : List ℕ) (y : X) → part back ≡ None → Fits y → back ≡ line y ++ rest → ⊥
  not_read back rest y e f is = none-some (y, rest) (sym e ∙ ap part is ∙ reads.again y rest f)

-- the parts of lists
pub all_front : {X : Type 0} (P : X → Type 0) (a b : List X) → AllByRecursion P (a ++ b) → AllByRecursion P a
all_front P [] b all = tt
all_front P (x ∷ a) b all = (all.0, all_front P a b all.1)

pub all_next : {X : Type 0} (P : X → Type 0) (a : List X) (x : X) (b : List X) → AllByRecursion P (a ++ (x ∷ b)) → P x
all_next P [] x b all = all.0
all_next P (y ∷ a) x b all = all_next P a x b all.1

-- the row of a rule that was read
pub record RowOf (part : Part Row) (r : Rule) (after : List ℕ) : Type 0 where
  pub row : Row
  pub is : part ≡ Some (row, after)
  pub given : rule_given row ≡ r

pub row_of_rule : (part : Part Row) (r : Rule) (after : List ℕ) → Some (r, after) ≡ option_map with_rule part → RowOf part r after
row_of_rule part r after e =
    let p = mapped {B = Rule × List ℕ} with_rule part (r, after) (sym e) in
    record {
      row = p.0.0;
      is = p.1 ∙ pair_is p.0.0 p.0.0 p.0.1 after refl (ap (λ (z : Rule × List ℕ). z.1) p.2);
      given = ap (λ (z : Rule × List ℕ). z.0) p.2;
    }
