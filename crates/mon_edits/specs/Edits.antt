-- The edits of a FLOW_MOD, in table order (OpenFlow 1.0.0, modify flow entry message).
use Rattle.std.specs.Prelude.{ℕ, Bool, false, ◌==◌, ◌||◌, List, [], ◌∷◌, map, Some, None}
use Rattle.std.specs.List.{filter, list_any}
use Rattle.mon_header.specs.declared.action.Action.{Action}
use Rattle.mon_header.specs.declared.action.Action.TheVariants.{Output}
use Rattle.mon_table.specs.declared.rule.Rule.{Rule}
use Rattle.mon_table.specs.declared.edit.Edit.{Edit}
use Rattle.mon_table.specs.declared.edit.Edit.TheVariants.{Put, Cut}
use Rattle.mon_table.specs.Tables.{rule_of}
use Rattle.of_msgs.specs.declared.command.Command.{Command}
use Rattle.of_msgs.specs.declared.command.Command.TheVariants.{Add, Modify, ModifyStrict, Delete, DeleteStrict}
use Rattle.of_msgs.specs.declared.flow_mod.FlowMod.{FlowMod}
use Rattle.of_msgs.specs.Absent.{NO_PORT}
use Rattle.mon_edits.specs.Naming.{has_timeout, identity_in, named}

-- the rule that the message spells: it is unsure where the message has a timeout
abbrev pub rule_in : FlowMod → Rule
rule_in m = record { matching = m.matching; priority = m.priority; actions = m.actions; unsure = has_timeout m }

-- the entry with the message's actions: it keeps its match and its priority field, and is unsure where the message has a
-- timeout or the entry was. For a modification leaves the timeouts of an entry as they are, but a switch that lost the
-- entry adds it with those of the message
abbrev pub changed_rule : FlowMod → Rule → Rule
changed_rule m r = record { matching = r.matching; priority = r.priority; actions = m.actions; unsure = has_timeout m || r.unsure }

-- the message's actions are put into the entry
abbrev pub changed : FlowMod → Rule → Edit
changed m r = Put (changed_rule m r) (Some r)

-- a modification that changes no entry adds its rule
abbrev pub or_added : FlowMod → List Edit → List Edit
or_added m [] = Put (rule_in m) None ∷ []
or_added m (x ∷ edits) = x ∷ edits

-- the action is an OUTPUT to the port; an ENQUEUE to it is none
abbrev pub is_output : ℕ → Action → Bool
is_output port (Output p max_len) = p == port
is_output port other = false

-- some action is an OUTPUT to the port
abbrev pub has_output : ℕ → List Action → Bool
has_output port actions = list_any (is_output port) actions

-- the deletion takes the entry: the message has no out_port, or the entry has an OUTPUT to it
abbrev pub is_taken : FlowMod → Rule → Bool
is_taken m r = (m.out_port == NO_PORT) || has_output m.out_port r.actions

-- an entry that goes
abbrev pub taken : Rule → Edit
taken r = Cut r

-- the rule of an ADD, with the entry that it replaces
abbrev pub added : List Rule → FlowMod → Edit
added t m = Put (rule_in m) (rule_of (identity_in m) t)

abbrev pub edits_by : Command → List Rule → FlowMod → List Edit
edits_by Add t m = added t m ∷ []
edits_by Modify t m = or_added m (map (changed m) (named t m))
edits_by ModifyStrict t m = or_added m (map (changed m) (named t m))
edits_by Delete t m = map taken (filter (is_taken m) (named t m))
edits_by DeleteStrict t m = map taken (filter (is_taken m) (named t m))

-- the edits of the message: an ADD puts its rule; a modification puts its actions into each entry that it names, or adds its rule where it names none; a deletion takes each entry that it names with its out_port
abbrev pub edits_of : List Rule → FlowMod → List Edit
edits_of t m = edits_by m.command t m
