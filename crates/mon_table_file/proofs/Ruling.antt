-- Rules that are read one after the other.
use Rattle.std.proofs.Common.{◌≡◌, ◌≢◌, ℕ, suc, ◌+◌, ◌≤◌, Bool, true, false, refl, sym, ap, subst, ◌∙◌, List, [], ◌∷◌, ◌++◌, length, map, Some, None, option_map, arith, length-append}
use Rattle.std.specs.List.{flat_map}
use Rattle.std.proofs.lemmas.Bool.{false≢true, eqb-true}
use Rattle.std.proofs.lemmas.List.{map-append, append-nil}
use Rattle.std.proofs.lemmas.Option.{none-some}
use Rattle.std.specs.Prelude.{◌==◌}
use Rattle.mon_text.specs.Parts.{Part}
use Rattle.mon_text.proofs.Growing.{all_push, flat_push}
use Rattle.mon_table.specs.declared.rule.Rule.{Rule}
use Rattle.mon_table.specs.Rules.{identity_of}
use Rattle.mon_table.specs.Tables.{IsTable, rule_of, with_rule}
use Rattle.mon_table_file.specs.Filling.{AreApart}
use Rattle.mon_table_file.specs.Lines.{Row, rule_line, FitsRow, may_stand, MayStand, rule_given}
use Rattle.mon_table_file.specs.Reading.{row_in, with_rule as with_row}
use Rattle.mon_table_file.specs.TableFile.{AreRules}
use Rattle.mon_table_file.specs.Sections.{RulesAt, RulesStop}
use Rattle.mon_table_file.proofs.SoFar.{RowOf, row_of_rule, same_line, not_read, all_next}
use Rattle.mon_table_file.proofs.LineReaders.{reader_row, no_row}
use Rattle.mon_table_file.proofs.Apart.{Fills, put-added, fills-more, apart-more, not-apart, length-more}

-- the rules so far, and their table
pub record RulesSoFar (second : Bool) (text : List ℕ) (table : List Rule) (rest : List ℕ) : Type 0 where
  pub rows : List Row
  pub is : text ≡ flat_map rule_line rows ++ rest
  pub rules : AreRules second rows
  pub fills : Fills (map rule_given rows) table
  pub many : length table ≡ length rows

pub no_rules_yet : (second : Bool) (text : List ℕ) (table : List Rule) → table ≡ [] → RulesSoFar second text table text
no_rules_yet second text table none =
    subst (λ (t : List Rule). RulesSoFar second text t text) (sym none)
    (record { rows = []; is = refl; rules = record { few = (omega arith); fit = tt; may_stand = tt; apart = tt }; fills = λ r. (λ h. h, λ h. h); many = refl })

-- what a test of the text's length says
pub something : (rest : List ℕ) → false ≡ (length rest == 0) → rest ≢ []
something rest e none = false≢true (e ∙ ap (λ (xs : List ℕ). length xs == 0) none)

pub nothing : (rest : List ℕ) → true ≡ (length rest == 0) → rest ≡ []
nothing [] e = refl
nothing (b ∷ bs) e = absurd (let f : length (b ∷ bs) ≡ 0 = eqb-true (length (b ∷ bs)) 0 (sym e) in omega arith)

pub none_read : (o : Part Row) → None ≡ option_map with_row o → o ≡ None
none_read None e = refl
none_read (Some p) e = absurd (none-some (with_row p) e)

given-more : (rows : List Row) (row : Row) → map rule_given (rows ++ row ∷ []) ≡ map rule_given rows ++ rule_given row ∷ []
given-more rows row = map-append rule_given rows (row ∷ [])

module _ (second : Bool) (text : List ℕ) (table : List Rule) (rest : List ℕ) (s : RulesSoFar second text table rest) where
  pub rules_end : IsTable table → rest ≡ [] → RulesAt second text table
  rules_end is none = record {
    rows = s.rows;
    is = s.is ∙ ap (λ t. flat_map rule_line s.rows ++ t) none ∙ append-nil (flat_map rule_line s.rows);
    rules = s.rules;
    table = record { table = is; members = s.fills };
  }

  stop : IsTable table → rest ≢ [] → ((row : Row) (more : List ℕ) → rest ≡ rule_line row ++ more → AreRules second (s.rows ++ row ∷ []) → ⊥) → RulesStop second text rest
  stop is some wrong = record { rows = s.rows; is = s.is; rules = s.rules; table = table; of = record { table = is; members = s.fills }; some = some; wrong = wrong }

  fits-last : (row : Row) → AreRules second (s.rows ++ row ∷ []) → FitsRow row
  fits-last row all = all_next FitsRow s.rows row [] all.fit

  -- something else than a rule
  pub no_rule : IsTable table → rest ≢ [] → row_in rest ≡ None → RulesStop second text rest
  no_rule is some none = stop is some (λ row more here all. not_read rule_line FitsRow row_in reader_row rest more row none (fits-last row all) here)

  module _ (r : Rule) (after : List ℕ) (read : Some (r, after) ≡ option_map with_row (row_in rest)) where
    row-of : RowOf (row_in rest) r after
    row-of = row_of_rule (row_in rest) r after read

    some-row : rest ≢ []
    some-row e = none-some (row-of.row, after) (sym no_row ∙ ap row_in (sym e) ∙ row-of.is)

    is-row : (row : Row) (more : List ℕ) → rest ≡ rule_line row ++ more → AreRules second (s.rows ++ row ∷ []) → row ≡ row-of.row
    is-row row more here all = same_line rule_line FitsRow row_in reader_row rest after more row-of.row row row-of.is (fits-last row all) here

    pub too_many : IsTable table → length table ≡ 4096 → RulesStop second text rest
    too_many is full = stop is some-row (λ row more here all.
        let few : length (s.rows ++ row ∷ []) ≤ 4096 = all.few in
        let one : length (s.rows ++ row ∷ []) ≡ length s.rows + 1 = length-append s.rows (row ∷ []) in
        let many : length table ≡ length s.rows = s.many in
        omega arith)

    pub not_in_version : IsTable table → false ≡ may_stand second r.unsure → RulesStop second text rest
    not_in_version is wrong = stop is some-row (λ row more here all.
        let same : r.unsure ≡ row.unsure = ap (λ (k : Rule). k.unsure) (sym row-of.given) ∙ ap (λ (k : Row). k.unsure) (sym (is-row row more here all)) in
        false≢true (wrong ∙ ap (may_stand second) same ∙ all_next (MayStand second) s.rows row [] all.may_stand))

    pub twice : (old : Rule) → IsTable table → Some old ≡ rule_of (identity_of r) table → RulesStop second text rest
    twice old is stands = stop is some-row (λ row more here all.
        let same : rule_given row ≡ r = ap rule_given (is-row row more here all) ∙ row-of.given in
        not-apart (map rule_given s.rows) table r old stands s.fills
        (subst AreApart (given-more s.rows row ∙ ap (λ (k : Rule). map rule_given s.rows ++ k ∷ []) same) all.apart))

    pub one_rule : (new : List Rule) → (length table ≡ 4096 → ⊥) → true ≡ may_stand second r.unsure → None ≡ rule_of (identity_of r) table → new ≡ with_rule r table → RulesSoFar second text new after
    one_rule new room stands none grown =
        let row = row-of.row in
        let f = reader_row.found rest row after row-of.is in
        let one : length (s.rows ++ row ∷ []) ≡ length s.rows + 1 = length-append s.rows (row ∷ []) in
        let many : length table ≡ length s.rows = s.many in
        let few : length s.rows ≤ 4096 = s.rules.few in
        let longer : length new ≡ suc (length table) = length-more table new r (sym none) grown in
        let given : map rule_given (s.rows ++ row ∷ []) ≡ map rule_given s.rows ++ r ∷ [] = given-more s.rows row ∙ ap (λ (k : Rule). map rule_given s.rows ++ k ∷ []) row-of.given in
        record {
          rows = s.rows ++ row ∷ [];
          is = s.is ∙ ap (λ t. flat_map rule_line s.rows ++ t) f.1 ∙ flat_push rule_line s.rows row after;
          rules = record {
            few = (let other : length s.rows ≢ 4096 = λ e. room (many ∙ e) in omega arith);
            fit = all_push FitsRow s.rows row s.rules.fit f.0;
            may_stand = all_push (MayStand second) s.rows row s.rules.may_stand (ap (λ (k : Rule). may_stand second k.unsure) row-of.given ∙ sym stands);
            apart = subst AreApart (sym given) (apart-more (map rule_given s.rows) table r (sym none) s.fills s.rules.apart);
          };
          fills = subst (λ (rs : List Rule). Fills rs new) (sym given) (fills-more (map rule_given s.rows) table new r (sym none) (put-added table new r grown) s.fills);
          many = longer ∙ ap suc many ∙ (omega arith);
        }
