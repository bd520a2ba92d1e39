-- The old rule of each edit of a message is of the edit's identity.
use Rattle.std.proofs.Common.{◌≡◌, List, [], ◌∷◌, map, Option, Some, None, refl}
use Rattle.std.specs.List.{AllByRecursion, filter}
use Rattle.mon_table.specs.declared.rule.Rule.{Rule}
use Rattle.mon_table.specs.declared.edit.Edit.TheVariants.{Put}
use Rattle.mon_table.specs.Rules.{identity_of}
use Rattle.mon_table.specs.Tables.{rule_of}
use Rattle.mon_table.proofs.Identities.{same-is}
use Rattle.of_msgs.specs.declared.command.Command.{Command}
use Rattle.of_msgs.specs.declared.command.Command.TheVariants.{Add, Modify, ModifyStrict, Delete, DeleteStrict}
use Rattle.of_msgs.specs.declared.flow_mod.FlowMod.{FlowMod}
use Rattle.mon_edits.specs.Naming.{named, identity_in}
use Rattle.mon_edits.specs.Edits.{rule_in, changed, or_added, taken, is_taken, edits_by, edits_of}
use Rattle.mon_session.specs.UnderWay.{HasItsOld}
use Rattle.mon_session.proofs.Rejected.{some-there}

put-old : (t : List Rule) (r : Rule) (o : Option Rule) → rule_of (identity_of r) t ≡ o → HasItsOld (Put r o)
put-old t r None e = tt
put-old t r (Some old) e = same-is (identity_of old) (identity_of r) (some-there (identity_of r) t old e).1

changed-olds : (m : FlowMod) (rs : List Rule) → AllByRecursion HasItsOld (map (changed m) rs)
changed-olds m [] = tt
changed-olds m (r ∷ rs) = (refl, changed-olds m rs)

taken-olds : (rs : List Rule) → AllByRecursion HasItsOld (map taken rs)
taken-olds [] = tt
taken-olds (r ∷ rs) = (tt, taken-olds rs)

added-olds : (m : FlowMod) (rs : List Rule) → AllByRecursion HasItsOld (or_added m (map (changed m) rs))
added-olds m [] = (tt, tt)
added-olds m (r ∷ rs) = changed-olds m (r ∷ rs)

olds-by : (c : Command) (t : List Rule) (m : FlowMod) → AllByRecursion HasItsOld (edits_by c t m)
olds-by Add t m = (put-old t (rule_in m) (rule_of (identity_in m) t) refl, tt)
olds-by Modify t m = added-olds m (named t m)
olds-by ModifyStrict t m = added-olds m (named t m)
olds-by Delete t m = taken-olds (filter (is_taken m) (named t m))
olds-by DeleteStrict t m = taken-olds (filter (is_taken m) (named t m))

pub all-olds : (t : List Rule) (m : FlowMod) → AllByRecursion HasItsOld (edits_of t m)
all-olds t m = olds-by m.command t m
