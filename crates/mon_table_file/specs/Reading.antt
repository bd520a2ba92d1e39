-- How the lines of a table file are read, part by part.
use Rattle.std.specs.Prelude.{ℕ, zero, suc, ◌≤◌, ◌<◌, ◌^◌, Bool, true, false, not, ◌==◌, nat_lt, ◌&&◌, if◌then◌else◌, List, [], ◌∷◌, ◌++◌, length, codes, Option, Some, None, option_and_then}
use Rattle.std.specs.List.{AllByRecursion}
use Rattle.mon_text.specs.Parts.{Part, behind, led, ended, both, seen, passing, bytes_in, run_in, number_within, datapath_in, feed}
use Rattle.mon_header.specs.declared.action.Action.{Action}
use Rattle.mon_header.specs.Assigned.{LAST_PORT}
use Rattle.mon_header.specs.Matching.{Matching}
use Rattle.mon_table.specs.declared.rule.Rule.{Rule}
use Rattle.mon_shows.specs.declared.near.Near.{Near}
use Rattle.mon_shows.specs.Views.{Viewing, is_in_use}
use Rattle.mon_topo.specs.Ascending.{LAST_VID}
use Rattle.of_match.specs.Layout.{match_of}
use Rattle.of_action.specs.Reading.{actions_of}
use Rattle.mon_table_file.specs.declared.sections.Head.{Head}
use Rattle.mon_table_file.specs.Lines.{first_line, switch_line, tags_line, miss_line, IsTag, Row, are_actions, actions_given, rule_given}

-- a port of a switch and a space
abbrev pub port_in : List ℕ → Part ℕ
port_in = ended (codes " ") (number_within 1 LAST_PORT)

abbrev pub datapath_word : List ℕ → Part ℕ
datapath_word = ended (codes " ") datapath_in

-- the last word of a line, a tag
abbrev pub last_tag : List ℕ → Part ℕ
last_tag = ended (feed) (number_within 1 LAST_VID)

unfoldable pub switch_in : List ℕ → Part (ℕ × ℕ)
switch_in = led (codes "switch ") (both datapath_word last_tag)

unfoldable pub miss_in : List ℕ → Part ℕ
miss_in = led (codes "miss ") (ended (feed) (number_within 0 65535))

abbrev pub tag_before : ℕ → Part (List ℕ) → Part (List ℕ)
tag_before tag None = None
tag_before tag (Some p) = Some (tag ∷ p.0, p.1)

-- the end of a line, or else what goes on
abbrev pub end_or : {X : Type 0} → Option (List ℕ) → Part (List X) → Part (List X)
end_or None more = more
end_or (Some rest) more = Some ([], rest)

-- fewer tags than this, and the end of the line
unfoldable pub tags_in : ℕ → List ℕ → Part (List ℕ)
tags_in zero text = None
tags_in (suc n) text =
    end_or (behind (feed) text) (option_and_then (λ p. tag_before p.0 (tags_in n p.1)) (led (codes " ") (number_within 1 LAST_VID) text))

abbrev pub near_of : ℕ × (ℕ × (ℕ × ℕ)) → Near
near_of x = record { port = x.0; switch = x.1.0; far_port = x.1.1.0; tag = x.1.1.1 }

unfoldable pub link_in : List ℕ → Part Near
link_in = seen near_of (led (codes "link ") (both port_in (both datapath_word (both port_in last_tag))))

-- false where the first of two texts stands there, true where the second does
abbrev pub either : Option (List ℕ) → Option (List ℕ) → Part Bool
either (Some rest) other = Some (false, rest)
either None (Some rest) = Some (true, rest)
either None None = None

abbrev pub which_of : List ℕ → List ℕ → List ℕ → Part Bool
which_of first second text = either (behind first text) (behind second text)

-- the first line: whether the file is of the second version
unfoldable pub name_in : List ℕ → Part Bool
name_in = which_of (first_line false) (first_line true)

-- the end of a rule's line: whether a timeout may take it
unfoldable pub end_in : List ℕ → Part Bool
end_in = which_of feed (codes " unsure" ++ feed)

-- there are bytes, and they are actions
abbrev pub are_some_actions : List ℕ → Bool
are_some_actions bytes = nat_lt 0 (length bytes) && are_actions bytes

abbrev pub run_of : List ℕ → Part (List ℕ)
run_of text = Some (run_in text)

-- a dash or digits
unfoldable pub actions_in : List ℕ → Part (List ℕ)
actions_in text = end_or (behind (codes "-") text) (passing are_some_actions run_of text)

-- the actions of bytes, none where these are no actions
abbrev pub actions_from : List ℕ → Option (List Action)
actions_from bytes = if are_some_actions bytes then Some (actions_given (actions_of bytes)) else None

-- bytes as what they say, with the text behind them
abbrev pub with_match : (ℕ × List ℕ) × List ℕ → (ℕ × Matching) × List ℕ
with_match p = ((p.0.0, match_of p.0.1), p.1)

abbrev pub with_actions : List ℕ × List ℕ → List Action × List ℕ
with_actions p = (actions_given (actions_of p.0), p.1)

abbrev pub with_rule : Row × List ℕ → Rule × List ℕ
with_rule p = (rule_given p.0, p.1)

-- the priority of a rule and the bytes of its match
unfoldable pub front_in : List ℕ → Part (ℕ × List ℕ)
front_in = led (codes "rule ") (both (ended (codes " ") (number_within 0 65535)) (ended (codes " ") (bytes_in 40)))

abbrev pub row_of : (ℕ × List ℕ) × (List ℕ × Bool) → Row
row_of x = record { priority = x.0.0; matching = x.0.1; actions = x.1.0; unsure = x.1.1 }

unfoldable pub row_in : List ℕ → Part Row
row_in = seen row_of (both front_in (both actions_in end_in))

unfoldable pub tags_line_in : List ℕ → Part (List ℕ)
tags_line_in = led (codes "tags") (tags_in 65)

-- what the first four lines say
pub record Heading : Type 0 where
  pub second : Bool
  pub switch : ℕ
  pub tag : ℕ
  pub tags : List ℕ
  pub miss : ℕ

-- the same of what the code makes
abbrev pub heading : Head → Heading
heading h = record { second = h.second; switch = h.switch; tag = h.tag; tags = h.tags; miss = h.miss }

abbrev pub heading_of : Bool × (((ℕ × ℕ) × List ℕ) × ℕ) → Heading
heading_of x = record { second = x.0; switch = x.1.0.0.0; tag = x.1.0.0.1; tags = x.1.0.1; miss = x.1.1 }

unfoldable pub head_in : List ℕ → Part Heading
head_in = seen heading_of (both name_in (both (both switch_in tags_line_in) miss_in))

abbrev pub FitsTags : List ℕ → Type 0
FitsTags tags = (length tags ≤ 64) × AllByRecursion IsTag tags

pub record FitsHeading (h : Heading) : Type 0 where
  pub switch : h.switch < 2 ^ 64
  pub tag : IsTag h.tag
  pub tags : FitsTags h.tags
  pub miss : h.miss < 2 ^ 16

abbrev pub heading_text : Heading → List ℕ
heading_text h = first_line h.second ++ (switch_line h.switch h.tag ++ (tags_line h.tags ++ miss_line h.miss))

-- the view of the first four lines and of links
abbrev pub view_given : Heading → List Near → Viewing
view_given h links = record { switch = h.switch; tag = h.tag; tags = h.tags; links = links; miss = h.miss }

-- the link leads to a switch with another tag in use
unfoldable pub has_other_tag : ℕ → List ℕ → Near → Bool
has_other_tag tag tags n = not (n.tag == tag) && is_in_use n.tag tags
