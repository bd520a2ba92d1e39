-- The lines of a table file, in its two versions. Words are parted by one space, and a line feed ends each line.
use Rattle.std.specs.Prelude.{◌≡◌, ℕ, ◌<◌, ◌≤◌, ◌^◌, Bool, nat_le, ◌&&◌, ◌||◌, not, is_ok, true, false, List, [], ◌++◌, length, codes, decimal, Result, Ok, Err}
use Rattle.std.specs.List.{flat_map}
use Rattle.std.specs.Int.{w64, to_be_bytes}
use Rattle.mon_text.specs.Hex.{hex, AllBytes, AreBytes}
use Rattle.mon_header.specs.declared.action.Action.{Action}
use Rattle.mon_header.specs.Assigned.{LAST_PORT}
use Rattle.mon_table.specs.declared.rule.Rule.{Rule}
use Rattle.mon_shows.specs.declared.near.Near.{Near}
use Rattle.mon_topo.specs.Ascending.{LAST_VID}
use Rattle.of_match.specs.Layout.{match_of}
use Rattle.of_action.specs.Reading.{actions_of}
use Rattle.mon_text.specs.Parts.{feed}
use Rattle.mon_rule_line.specs.RuleWords.{rule_words}

-- sixteen digits
abbrev pub datapath_text : ℕ → List ℕ
datapath_text datapath = hex (to_be_bytes w64 datapath)

-- the name of the form and the version: the first, or the second, in which the line of a rule may say that a timeout may
-- take it
abbrev pub first_line : Bool → List ℕ
first_line false = codes "monocle-table 1" ++ feed
first_line true = codes "monocle-table 2" ++ feed

-- the switch and its tag
abbrev pub switch_line : ℕ → ℕ → List ℕ
switch_line datapath tag = codes "switch " ++ (datapath_text datapath ++ (codes " " ++ (decimal tag ++ feed)))

abbrev pub tag_text : ℕ → List ℕ
tag_text tag = codes " " ++ decimal tag

-- the tags in use
abbrev pub tags_line : List ℕ → List ℕ
tags_line tags = codes "tags" ++ (flat_map tag_text tags ++ feed)

-- the miss length
abbrev pub miss_line : ℕ → List ℕ
miss_line miss = codes "miss " ++ (decimal miss ++ feed)

-- a link: the port, and the datapath, the port and the tag at the other end
abbrev pub link_line : Near → List ℕ
link_line n =
    codes "link "
    ++ (decimal n.port ++ (codes " " ++ (datapath_text n.switch ++ (codes " " ++ (decimal n.far_port ++ (codes " " ++ (decimal n.tag ++ feed)))))))

-- a port of a link, and a tag
abbrev pub IsPort : ℕ → Type 0
IsPort n = (1 ≤ n) × (n ≤ LAST_PORT)

abbrev pub IsTag : ℕ → Type 0
IsTag n = (1 ≤ n) × (n ≤ LAST_VID)

-- the numbers of a link are in range
pub record FitsNear (n : Near) : Type 0 where
  pub port : IsPort n.port
  pub switch : n.switch < 2 ^ 64
  pub far_port : IsPort n.far_port
  pub tag : IsTag n.tag

-- what the line of a rule says: its priority, the 40 bytes of its match, the bytes of its actions, and whether a timeout
-- may take it
pub record Row : Type 0 where
  pub priority : ℕ
  pub matching : List ℕ
  pub actions : List ℕ
  pub unsure : Bool

-- the line of a rule
abbrev pub rule_line : Row → List ℕ
rule_line r = codes "rule " ++ rule_words r.priority r.matching r.actions r.unsure

-- whole actions (OpenFlow 1.0.0, flow action structures), at most 512 bytes of them
abbrev pub are_actions : List ℕ → Bool
are_actions bytes = nat_le (length bytes) 512 && is_ok (actions_of bytes)

pub record AreActions (bytes : List ℕ) : Type 0 where
  pub bytes_are : AllBytes bytes
  pub whole : are_actions bytes ≡ true

pub record FitsRow (r : Row) : Type 0 where
  pub priority : r.priority < 2 ^ 16
  pub matching : AreBytes 40 r.matching
  pub actions : AreActions r.actions

-- a rule that a timeout may take stands in a file of the second version alone
abbrev pub may_stand : Bool → Bool → Bool
may_stand second unsure = second || not unsure

abbrev pub MayStand : Bool → Row → Type 0
MayStand second r = may_stand second r.unsure ≡ true

abbrev pub actions_given : Result (List Action) ℕ → List Action
actions_given (Ok actions) = actions
actions_given (Err place) = []

-- the rule that a row says; its match is in the normalised form
abbrev pub rule_given : Row → Rule
rule_given r = record { matching = match_of r.matching; priority = r.priority; actions = actions_given (actions_of r.actions); unsure = r.unsure }
