-- The first four lines of a table file, and that a text is the file of one view and table.
use Rattle.std.proofs.Common.{◌≡◌, ℕ, suc, ◌≤◌, Bool, sym, ap, subst, ◌∙◌, List, [], ◌∷◌, ◌++◌, map, arith, append_assoc}
use Rattle.std.specs.List.{flat_map, AllByRecursion}
use Rattle.std.proofs.lemmas.List.{append-nil}
use Rattle.mon_text.proofs.Joining.{reader_once, reader_many}
use Rattle.mon_topo.specs.Ascending.{Ascends}
use Rattle.mon_table.specs.declared.rule.Rule.{Rule}
use Rattle.mon_shows.specs.declared.near.Near.{Near}
use Rattle.mon_shows.specs.Views.{Viewing}
use Rattle.mon_table_file.specs.Filling.{IsTableOf}
use Rattle.mon_table_file.specs.Lines.{first_line, switch_line, tags_line, miss_line, link_line, IsTag, FitsNear, rule_line, FitsRow, rule_given}
use Rattle.mon_table_file.specs.TableFile.{FitsView, FitsLink, IsTableFile}
use Rattle.mon_table_file.specs.Reading.{Heading, heading_text, FitsHeading, head_in, link_in, row_in, view_given}
use Rattle.mon_table_file.proofs.Apart.{one-table}
use Rattle.mon_table_file.proofs.LineReaders.{reader_heading, reader_link, reader_row, no_link, no_row}
use Rattle.mon_table_file.proofs.Deciding.{tag_in_range}

-- the first four lines of a view
abbrev pub head_of : Bool → Viewing → Heading
head_of second v = record { second = second; switch = v.switch; tag = v.tag; tags = v.tags; miss = v.miss }

pub lines_are : (second : Bool) (v : Viewing) (rest : List ℕ) → heading_text (head_of second v) ++ rest ≡ first_line second ++ (switch_line v.switch v.tag ++ (tags_line v.tags ++ (miss_line v.miss ++ rest)))
lines_are second v rest =
    append_assoc (first_line second) (switch_line v.switch v.tag ++ (tags_line v.tags ++ miss_line v.miss)) rest
    ∙ ap (λ t. first_line second ++ t) (append_assoc (switch_line v.switch v.tag) (tags_line v.tags ++ miss_line v.miss) rest)
    ∙ ap (λ t. first_line second ++ (switch_line v.switch v.tag ++ t)) (append_assoc (tags_line v.tags) (miss_line v.miss) rest)

pub tags_fit : (low : ℕ) (tags : List ℕ) → 1 ≤ low → Ascends low 4094 tags → AllByRecursion IsTag tags
tags_fit low [] least up = tt
tags_fit low (t ∷ tags) least up = ((let k : low ≤ t = up.0 in omega arith, up.1), tags_fit (suc t) tags (omega arith) up.2)

pub near_fit : (tag : ℕ) (tags : List ℕ) (links : List Near) → AllByRecursion (FitsLink tag tags) links → AllByRecursion FitsNear links
near_fit tag tags [] all = tt
near_fit tag tags (n ∷ ns) all = (all.0.near, near_fit tag tags ns all.1)

pub head_fits : (second : Bool) (v : Viewing) → FitsView v → FitsHeading (head_of second v)
head_fits second v f = record {
  switch = f.switch;
  tag = tag_in_range v.tags v.tag f.tags.vids f.tags.in_use;
  tags = (f.tags.few, tags_fit 1 v.tags (omega arith) f.tags.vids);
  miss = f.miss;
}

pub same_view : (h : Heading) (links : List Near) (second : Bool) (v : Viewing) → h ≡ head_of second v → links ≡ v.links → view_given h links ≡ v
same_view h links second v e f = ap (λ k. view_given k links) e ∙ ap (view_given (head_of second v)) f

-- a text is the file of one view and one table
pub one_file : (text : List ℕ) (v w : Viewing) (t u : List Rule) → IsTableFile text v t → IsTableFile text w u → (v ≡ w) × (t ≡ u)
one_file text v w t u f g =
    let first = reader_once heading_text FitsHeading head_in reader_heading (head_of f.second v) (head_of g.second w) (flat_map link_line v.links ++ flat_map rule_line f.rows) (flat_map link_line w.links ++ flat_map rule_line g.rows)
    (head_fits f.second v f.view) (head_fits g.second w g.view)
    (lines_are f.second v (flat_map link_line v.links ++ flat_map rule_line f.rows) ∙ sym f.is ∙ g.is ∙ sym (lines_are g.second w (flat_map link_line w.links ++ flat_map rule_line g.rows))) in
    let second = reader_many link_line FitsNear link_in reader_link v.links w.links (flat_map rule_line f.rows) (flat_map rule_line g.rows)
    (near_fit v.tag v.tags v.links f.view.links.fit) (near_fit w.tag w.tags w.links g.view.links.fit) (no_link f.rows) (no_link g.rows) first.1 in
    let third = reader_many rule_line FitsRow row_in reader_row f.rows g.rows [] [] f.rules.fit g.rules.fit no_row no_row
    (append-nil (flat_map rule_line f.rows) ∙ second.1 ∙ sym (append-nil (flat_map rule_line g.rows))) in (
      same_view (head_of f.second v) v.links g.second w first.0 second.0,
      one-table (map rule_given f.rows) t u f.table (subst (λ (rs : List Rule). IsTableOf rs u) (sym (ap (map rule_given) third.0)) g.table),
    )
