-- What a FLOW_MOD names, and when it adds an entry (OpenFlow 1.0.0, modify flow entry message).
use Rattle.std.specs.Prelude.{Bool, true, false, not, ◌==◌, ◌&&◌, ◌||◌, List, [], ◌∷◌}
use Rattle.std.specs.List.{filter}
use Rattle.std.specs.Option.{option_to_list}
use Rattle.mon_table.specs.declared.rule.Rule.{Rule}
use Rattle.mon_table.specs.Rules.{Identity, identity}
use Rattle.mon_table.specs.Tables.{rule_of, is_named}
use Rattle.of_msgs.specs.declared.command.Command.{Command}
use Rattle.of_msgs.specs.declared.command.Command.TheVariants.{Add, Modify, ModifyStrict, Delete, DeleteStrict}
use Rattle.of_msgs.specs.declared.flow_mod.FlowMod.{FlowMod}
use Rattle.of_msgs.specs.Flags.{CHECK_OVERLAP, EMERG, has_flag}

-- the message is for the emergency table
abbrev pub is_emergency : FlowMod → Bool
is_emergency m = has_flag EMERG m.flags

-- an entry that overlaps is an error
abbrev pub checks_overlap : FlowMod → Bool
checks_overlap m = has_flag CHECK_OVERLAP m.flags

-- the message has a timeout, so that its entry goes by itself
abbrev pub has_timeout : FlowMod → Bool
has_timeout m = not (m.idle == 0) || not (m.hard == 0)

-- the command looks at the priority, and at one identity alone
abbrev pub is_strict : Command → Bool
is_strict ModifyStrict = true
is_strict DeleteStrict = true
is_strict other = false

-- the command is an ADD
abbrev pub is_add : Command → Bool
is_add Add = true
is_add other = false

-- the command takes entries out
abbrev pub is_deletion : Command → Bool
is_deletion Delete = true
is_deletion DeleteStrict = true
is_deletion other = false

-- the identity that the message spells
abbrev pub identity_in : FlowMod → Identity
identity_in m = identity m.matching m.priority

-- the entry of the message's identity, if there is one
abbrev pub at_identity : List Rule → FlowMod → List Rule
at_identity t m = option_to_list (rule_of (identity_in m) t)

-- the entries whose match the message's match covers, in table order
abbrev pub covered : List Rule → FlowMod → List Rule
covered t m = filter (is_named m.matching) t

abbrev pub named_by : Command → List Rule → FlowMod → List Rule
named_by Add t m = at_identity t m
named_by Modify t m = covered t m
named_by ModifyStrict t m = at_identity t m
named_by Delete t m = covered t m
named_by DeleteStrict t m = at_identity t m

-- the entries that the message names: an ADD names the one that it replaces
abbrev pub named : List Rule → FlowMod → List Rule
named t m = named_by m.command t m

abbrev pub is_none : List Rule → Bool
is_none [] = true
is_none (r ∷ t) = false

-- the message adds an entry: it is no deletion, and names none
abbrev pub adds_entry : List Rule → FlowMod → Bool
adds_entry t m = not (is_deletion m.command) && is_none (named t m)
