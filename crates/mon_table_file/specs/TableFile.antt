-- A table file: a switch as its neighbours can show it, and the rules of its table.
use Rattle.std.specs.Prelude.{◌≡◌, ◌≢◌, ℕ, ◌<◌, ◌≤◌, ◌^◌, Bool, true, List, map, ◌++◌, length}
use Rattle.std.specs.List.{flat_map, AllByRecursion}
use Rattle.mon_topo.specs.Ascending.{AreVids}
use Rattle.mon_table.specs.declared.rule.Rule.{Rule}
use Rattle.mon_shows.specs.declared.near.Near.{Near}
use Rattle.mon_shows.specs.Views.{Viewing, is_in_use}
use Rattle.mon_shows.specs.Links.{PortsAscend}
use Rattle.mon_table_file.specs.Filling.{AreApart, IsTableOf}
use Rattle.mon_table_file.specs.Lines.{first_line, switch_line, tags_line, miss_line, link_line, FitsNear, Row, rule_line, FitsRow, MayStand, rule_given}

-- the version and the lines of a view, and then those of rules in any order
abbrev pub file_text : Bool → Viewing → List Row → List ℕ
file_text second v rows =
    first_line second
    ++ (switch_line v.switch v.tag
    ++ (tags_line v.tags
    ++ (miss_line v.miss
    ++ (flat_map link_line v.links
    ++ flat_map rule_line rows))))

-- 1 to 64 tags of 1 to 4094, each above the one before it, the switch's among them
pub record AreTags (tag : ℕ) (tags : List ℕ) : Type 0 where
  pub vids : AreVids tags
  pub few : length tags ≤ 64
  pub in_use : is_in_use tag tags ≡ true

-- a link whose numbers are in range, to another tag in use than the switch's
pub record FitsLink (tag : ℕ) (tags : List ℕ) (n : Near) : Type 0 where
  pub near : FitsNear n
  pub in_use : is_in_use n.tag tags ≡ true
  pub other : n.tag ≢ tag

-- such links, by strictly rising port
pub record AreLinks (tag : ℕ) (tags : List ℕ) (links : List Near) : Type 0 where
  pub fit : AllByRecursion (FitsLink tag tags) links
  pub ascending : PortsAscend 0 links

pub record FitsView (v : Viewing) : Type 0 where
  pub switch : v.switch < 2 ^ 64
  pub tags : AreTags v.tag v.tags
  pub miss : v.miss < 2 ^ 16
  pub links : AreLinks v.tag v.tags v.links

-- at most 4096 rules, no two of one identity, and unsure ones in the second version alone
pub record AreRules (second : Bool) (rows : List Row) : Type 0 where
  pub few : length rows ≤ 4096
  pub fit : AllByRecursion FitsRow rows
  pub may_stand : AllByRecursion (MayStand second) rows
  pub apart : AreApart (map rule_given rows)

-- the text is a table file of this view and this table, whose rules are those of the lines
pub record IsTableFile (text : List ℕ) (v : Viewing) (t : List Rule) : Type 0 where
  pub second : Bool
  pub rows : List Row
  pub is : text ≡ file_text second v rows
  pub view : FitsView v
  pub rules : AreRules second rows
  pub table : IsTableOf (map rule_given rows) t

-- the text is the file of some view and table
abbrev pub IsTableText : List ℕ → Type 0
IsTableText text = (v : Viewing) × (t : List Rule) × IsTableFile text v t
