-- What several rows of histories share: a packet that shows a stand-in, the probe of the second serial, and an ADD whose rule
-- may vanish.
use Rattle.std.specs.Prelude.{ℕ, false, true, List, [], ◌∷◌, Option, Some, None, refl}
use Rattle.mon_header.specs.declared.header.Header.{Header}
use Rattle.mon_table.specs.declared.rule.Rule.{Rule}
use Rattle.mon_table.specs.declared.edit.Edit.TheVariants as edit
use Rattle.mon_outcome.specs.declared.emission.Emission.{Emission}
use Rattle.mon_outcome.specs.declared.emission.Emission.TheVariants.{Port}
use Rattle.mon_world.specs.declared.event.Event.TheVariants.{Piece}
use Rattle.mon_world.specs.declared.event.Note.TheVariants.{Offer}
use Rattle.mon_world.specs.declared.event.Side.TheVariants.{Controller}
use Rattle.mon_world.specs.declared.history.Entry.TheVariants.{Given, Noted}
use Rattle.mon_legal.specs.Moments.{Moment}
use Rattle.mon_legal.specs.Moments.Moment.{Is}
use Rattle.mon_legal.specs.Passing.{FramesGoInOrder}
use Rattle.mon_legal.specs.Owns.{Change}
use Rattle.mon_legal.specs.Story.{run, emission, header, rule_of_add, probe_out, probe_in, armed, passes, is_probed, is_confirmed}
use Rattle.mon_legal.proofs.Computed.{computed}
use Rattle.mon_legal.proofs.OrderStands as OrderStands

-- the probe of the second serial, and as it comes back
abbrev pub out_2 : List ℕ
out_2 = 1 ∷ 13 ∷ 0 ∷ 88 ∷ 77 ∷ 111 ∷ 110 ∷ 111 ∷ 255 ∷ 255 ∷ 255 ∷ 255 ∷ 255 ∷ 255 ∷ 0 ∷ 8 ∷ 0 ∷ 0 ∷ 0 ∷ 8 ∷ 0 ∷ 1 ∷ 0 ∷ 0 ∷ 2 ∷ 0 ∷ 0 ∷ 0 ∷ 0 ∷ 2 ∷ 2 ∷ 0 ∷ 0 ∷ 0 ∷ 0 ∷ 1 ∷ 129 ∷ 0 ∷ 0 ∷ 100 ∷ 8 ∷ 0 ∷ 69 ∷ 0 ∷ 0 ∷ 44 ∷ 0 ∷ 0 ∷ 0 ∷ 0 ∷ 64 ∷ 255 ∷ 101 ∷ 203 ∷ 10 ∷ 0 ∷ 0 ∷ 9 ∷ 10 ∷ 0 ∷ 0 ∷ 0 ∷ 77 ∷ 79 ∷ 78 ∷ 79 ∷ 67 ∷ 76 ∷ 69 ∷ 49 ∷ 0 ∷ 0 ∷ 0 ∷ 0 ∷ 0 ∷ 0 ∷ 0 ∷ 1 ∷ 0 ∷ 0 ∷ 0 ∷ 0 ∷ 0 ∷ 0 ∷ 0 ∷ 2 ∷ 0 ∷ 0 ∷ []

abbrev pub in_2 : List ℕ
in_2 = 1 ∷ 10 ∷ 0 ∷ 82 ∷ 0 ∷ 0 ∷ 0 ∷ 0 ∷ 255 ∷ 255 ∷ 255 ∷ 255 ∷ 0 ∷ 64 ∷ 0 ∷ 1 ∷ 1 ∷ 0 ∷ 2 ∷ 0 ∷ 0 ∷ 0 ∷ 0 ∷ 2 ∷ 2 ∷ 0 ∷ 0 ∷ 0 ∷ 0 ∷ 1 ∷ 129 ∷ 0 ∷ 0 ∷ 100 ∷ 8 ∷ 0 ∷ 69 ∷ 0 ∷ 0 ∷ 44 ∷ 0 ∷ 0 ∷ 0 ∷ 0 ∷ 64 ∷ 255 ∷ 101 ∷ 203 ∷ 10 ∷ 0 ∷ 0 ∷ 9 ∷ 10 ∷ 0 ∷ 0 ∷ 0 ∷ 77 ∷ 79 ∷ 78 ∷ 79 ∷ 67 ∷ 76 ∷ 69 ∷ 49 ∷ 0 ∷ 0 ∷ 0 ∷ 0 ∷ 0 ∷ 0 ∷ 0 ∷ 1 ∷ 0 ∷ 0 ∷ 0 ∷ 0 ∷ 0 ∷ 0 ∷ 0 ∷ 2 ∷ 0 ∷ 0 ∷ []

-- the packet of a stand-in: it comes in at port 2, and leaves by port 1 with the address that marks drops
abbrev pub marked : Header
marked = record header { in_port = 2; dl_dst = 2531066269440 }

abbrev pub shows_stand_in : Emission
shows_stand_in = Port 1 marked

-- the ADD with a hard timeout, as it comes and as it goes on, and its rule
abbrev pub timed_add : List ℕ
timed_add = 1 ∷ 14 ∷ 0 ∷ 80 ∷ 0 ∷ 0 ∷ 0 ∷ 17 ∷ 0 ∷ 50 ∷ 32 ∷ 239 ∷ 0 ∷ 0 ∷ 0 ∷ 0 ∷ 0 ∷ 0 ∷ 0 ∷ 0 ∷ 0 ∷ 0 ∷ 0 ∷ 0 ∷ 0 ∷ 0 ∷ 0 ∷ 0 ∷ 0 ∷ 0 ∷ 8 ∷ 0 ∷ 0 ∷ 0 ∷ 0 ∷ 0 ∷ 0 ∷ 0 ∷ 0 ∷ 0 ∷ 10 ∷ 0 ∷ 0 ∷ 0 ∷ 0 ∷ 0 ∷ 0 ∷ 0 ∷ 0 ∷ 0 ∷ 0 ∷ 0 ∷ 0 ∷ 0 ∷ 0 ∷ 0 ∷ 0 ∷ 0 ∷ 0 ∷ 10 ∷ 0 ∷ 0 ∷ 0 ∷ 100 ∷ 255 ∷ 255 ∷ 255 ∷ 255 ∷ 255 ∷ 255 ∷ 0 ∷ 0 ∷ 0 ∷ 0 ∷ 0 ∷ 8 ∷ 0 ∷ 2 ∷ 0 ∷ 0 ∷ []

abbrev pub flagged_add : List ℕ
flagged_add = 1 ∷ 14 ∷ 0 ∷ 80 ∷ 0 ∷ 0 ∷ 0 ∷ 17 ∷ 0 ∷ 50 ∷ 32 ∷ 239 ∷ 0 ∷ 0 ∷ 0 ∷ 0 ∷ 0 ∷ 0 ∷ 0 ∷ 0 ∷ 0 ∷ 0 ∷ 0 ∷ 0 ∷ 0 ∷ 0 ∷ 0 ∷ 0 ∷ 0 ∷ 0 ∷ 8 ∷ 0 ∷ 0 ∷ 0 ∷ 0 ∷ 0 ∷ 0 ∷ 0 ∷ 0 ∷ 0 ∷ 10 ∷ 0 ∷ 0 ∷ 0 ∷ 0 ∷ 0 ∷ 0 ∷ 0 ∷ 0 ∷ 0 ∷ 0 ∷ 0 ∷ 0 ∷ 0 ∷ 0 ∷ 0 ∷ 0 ∷ 0 ∷ 0 ∷ 10 ∷ 0 ∷ 0 ∷ 0 ∷ 100 ∷ 255 ∷ 255 ∷ 255 ∷ 255 ∷ 255 ∷ 255 ∷ 0 ∷ 1 ∷ 0 ∷ 0 ∷ 0 ∷ 8 ∷ 0 ∷ 2 ∷ 0 ∷ 0 ∷ []

abbrev pub timed_rule : Rule
timed_rule = record rule_of_add { unsure = true }

abbrev pub timed_change : Option Change
timed_change = Some (record { edit = edit.Put timed_rule None; closing = None })

-- it passed and was confirmed
abbrev pub timed : List Moment
timed =
    is_confirmed 1 2 probe_in (is_probed 1 emission 1 probe_out (Is (Noted (Offer 1 0 1 4))
    ∷ passes timed_add flagged_add timed_change (Is (Given (Piece 0 Controller timed_add)) ∷ armed)))

pub until_timed : FramesGoInOrder run timed
unfolding computed
until_timed = (tt, refl, (tt, refl, (refl, refl, (tt, (1, probe_out, false, refl), (tt, (emission, refl), (refl, refl, (refl, refl, (tt, refl, (tt, (false, refl), (tt, refl, (tt, refl, (tt, refl, (refl, refl, OrderStands.until_armed)))))))))))))
