-- What stands in each section of a table file, and where a section breaks the form.
use Rattle.std.specs.Prelude.{◌≡◌, ◌≢◌, ℕ, suc, ◌+◌, ◌<◌, ◌≤◌, ◌^◌, Bool, List, [], ◌∷◌, map, ◌++◌, length, Some, None}
use Rattle.std.specs.List.{flat_map}
use Rattle.mon_text.specs.BadLines.{IsFirstBadLine}
use Rattle.mon_table.specs.declared.rule.Rule.{Rule}
use Rattle.mon_shows.specs.declared.near.Near.{Near}
use Rattle.mon_table_file.specs.Filling.{IsTableOf}
use Rattle.mon_table_file.specs.Lines.{link_line, Row, rule_line, rule_given}
use Rattle.mon_table_file.specs.Reading.{Heading, heading_text, link_in}
use Rattle.mon_table_file.specs.TableFile.{AreTags, AreLinks, AreRules, IsTableText}

-- the first four lines stand at the front, and go together
pub record HeadAt (text : List ℕ) (h : Heading) (rest : List ℕ) : Type 0 where
  pub is : text ≡ heading_text h ++ rest
  pub switch : h.switch < 2 ^ 64
  pub tags : AreTags h.tag h.tags
  pub miss : h.miss < 2 ^ 16

-- the least port that the next link may have: low itself after none, else one above the last
abbrev pub next_port : ℕ → List Near → ℕ
next_port low [] = low
next_port low (n ∷ ns) = next_port (suc n.port) ns

-- these links stand at the front, and no further one behind them
pub record LinksAt (tag : ℕ) (tags : List ℕ) (text : List ℕ) (links : List Near) (rest : List ℕ) : Type 0 where
  pub is : text ≡ flat_map link_line links ++ rest
  pub links_are : AreLinks tag tags links
  pub ends : link_in rest ≡ None

-- behind some links stands one that does not go with them
pub record LinksStop (tag : ℕ) (tags : List ℕ) (text : List ℕ) (back : List ℕ) : Type 0 where
  pub links : List Near
  pub is : text ≡ flat_map link_line links ++ back
  pub links_are : AreLinks tag tags links
  pub near : Near
  pub after : List ℕ
  pub read : link_in back ≡ Some (near, after)
  pub wrong : AreLinks tag tags (links ++ near ∷ []) → ⊥

-- the text is the lines of the rules of a table
pub record RulesAt (second : Bool) (text : List ℕ) (t : List Rule) : Type 0 where
  pub rows : List Row
  pub is : text ≡ flat_map rule_line rows
  pub rules : AreRules second rows
  pub table : IsTableOf (map rule_given rows) t

-- behind the lines of some rules stands something else than the line of one that goes with them
pub record RulesStop (second : Bool) (text : List ℕ) (back : List ℕ) : Type 0 where
  pub rows : List Row
  pub is : text ≡ flat_map rule_line rows ++ back
  pub rules : AreRules second rows
  pub table : List Rule
  pub of : IsTableOf (map rule_given rows) table
  pub some : back ≢ []
  pub wrong : (row : Row) (rest : List ℕ) → back ≡ rule_line row ++ rest → AreRules second (rows ++ row ∷ []) → ⊥

-- the text is no table file, and its first bad line is where this stands
pub record IsBrokenFrom (text back : List ℕ) : Type 0 where
  pub none : IsTableText text → ⊥
  pub within : length back ≤ length text
  pub first : (n : ℕ) → n + length back ≡ length text → IsFirstBadLine IsTableText text n
