-- The lines of one table more.
use Rattle.std.proofs.Common.{◌≡◌, ℕ, ◌+◌, List, ◌∷◌, ◌++◌, drop, Some, sym, ap, ◌∙◌, append_assoc}
use Rattle.std.specs.Prelude.{slice_get}
use Rattle.std.proofs.lemmas.List.{drop_more}
use Rattle.std.proofs.lemmas.Option.{slice_get_within, get_or_from_slice_get}
use Rattle.mon_table.specs.declared.rule.Rule.{Rule}
use Rattle.mon_rule_line.specs.TableLines.{table_lines}
use Rattle.monocle.specs.Replay.{lines_of_tables}

pub table-more : (tables : List (ℕ × List Rule)) (place session : ℕ) (t : List Rule) (bytes more all : List ℕ) → slice_get tables place ≡ Some (session, t)
    → more ≡ bytes ++ table_lines session t → bytes ++ lines_of_tables (drop place tables) ≡ all → more ++ lines_of_tables (drop (place + 1) tables) ≡ all
table-more tables place session t bytes more all found put so_far =
    let next : drop place tables ≡ (session, t) ∷ drop (place + 1) tables =
    drop_more tables place (session, t) (slice_get_within tables place (session, t) found)
    ∙ ap (λ (x : ℕ × List Rule). x ∷ drop (place + 1) tables) (get_or_from_slice_get tables place (session, t) (session, t) found) in
    ap (λ (xs : List ℕ). xs ++ lines_of_tables (drop (place + 1) tables)) put
    ∙ append_assoc bytes (table_lines session t) (lines_of_tables (drop (place + 1) tables))
    ∙ ap (λ (xs : List (ℕ × List Rule)). bytes ++ lines_of_tables xs) (sym next)
    ∙ so_far
