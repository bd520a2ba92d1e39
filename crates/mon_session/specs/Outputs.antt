-- What goes out of the frame that was planned last.
use Rattle.std.specs.Prelude.{ℕ, ◌+◌, Bool, false, if◌then◌else◌, List, [], ◌∷◌, Option, Some, None}
use Rattle.mon_table.specs.declared.edit.Edit.{Edit}
use Rattle.mon_report.specs.declared.line.What.TheVariants as what
use Rattle.mon_world.specs.declared.event.Side.TheVariants.{Switch}
use Rattle.mon_legal.specs.Owns.{Act}
use Rattle.mon_legal.specs.Owns.Act.{Step}
use Rattle.mon_legal.specs.Messages.{own_barrier}
use Rattle.mon_legal.specs.Owns.{Own}
use Rattle.mon_legal.specs.Owns.Own.{Acts, Sends}
use Rattle.mon_legal.specs.Directly.{Due, fact, on_edit}
use Rattle.mon_legal.specs.Directly.Due.{Frame}
use Rattle.mon_session.specs.declared.change.Output.{Output}
use Rattle.mon_session.specs.declared.change.Output.TheVariants.{Plain, Edited}
use Rattle.mon_session.specs.Now.{Now, made_if, out_after}
use Rattle.mon_session.specs.Dues.{met}
use Rattle.mon_session.specs.Entries.{forgotten}
use Rattle.mon_session.specs.UnderWay.{HasItsOld}

-- the step by which it goes out
abbrev pub act_of : Output → Act
act_of (Plain to frame) = Step to frame None
act_of (Edited frame edit) = Step Switch frame (Some (record { edit = edit; closing = None }))

abbrev pub act_if : Option Output → Option Act
act_if None = None
act_if (Some output) = Some (act_of output)

-- what is due of an edit that went out, by whether it changed nothing, and whether its rule is tied
abbrev pub dues_of : ℕ → ℕ → Bool → Bool → List Due
dues_of s k nothing tied =
    if nothing then fact s k what.NoChange ∷ []
    else (if tied then fact s k what.Overlap ∷ Frame Switch own_barrier ∷ [] else [])

-- an edit goes out in this frame, and what is due of it follows
abbrev pub passing : ℕ → Now → List ℕ → Edit → List Own
passing s n frame x = Sends Switch frame false ∷ met (on_edit s (n.count + 1) (made_if (Some x) n.table) (Some x))

-- the session once a part is on its way out, and the entries that follow
abbrev pub steps_out : Act → Now → Now
steps_out act n = record (forgotten n) { out = out_after (Acts act) }

abbrev pub behind_act : ℕ → Now → Output → List Own
behind_act s n (Plain to frame) = Sends to frame false ∷ []
behind_act s n (Edited frame x) = passing s n frame x

-- the old rule of a put that goes out is of its identity
abbrev pub OutputHasItsOld : Option Output → Type 0
OutputHasItsOld (Some (Edited frame edit)) = HasItsOld edit
OutputHasItsOld other = Unit {0}
