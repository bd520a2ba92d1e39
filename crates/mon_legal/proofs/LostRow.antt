-- An update that the switch lost: its probe shows the lower rule, goes out again, and the update is reported as silent.
use Rattle.std.specs.Prelude.{◌≡◌, ℕ, true, false, List, [], ◌∷◌, ◌++◌, Option, Some, None, refl}
use Rattle.mon_header.specs.declared.action.Action.TheVariants.{Output}
use Rattle.mon_table.specs.declared.rule.Rule.{Rule}
use Rattle.mon_table.specs.declared.edit.Edit.TheVariants as edit
use Rattle.mon_outcome.specs.declared.emission.Emission.{Emission}
use Rattle.mon_outcome.specs.declared.emission.Emission.TheVariants as emissions
use Rattle.mon_report.specs.declared.line.Line.TheVariants.{Fact}
use Rattle.mon_report.specs.declared.line.What.TheVariants as what
use Rattle.mon_world.specs.declared.event.Side.TheVariants.{Controller}
use Rattle.mon_world.specs.declared.event.Event.TheVariants.{Piece, Tick}
use Rattle.mon_world.specs.declared.event.Note.TheVariants.{Offer, Report}
use Rattle.mon_world.specs.declared.history.Entry.TheVariants.{Given, Noted}
use Rattle.mon_legal.specs.Moments.{Moment}
use Rattle.mon_legal.specs.Moments.Moment.{Is, Went}
use Rattle.mon_legal.specs.Owns.{Change}
use Rattle.mon_legal.specs.Ordering.{next}
use Rattle.mon_legal.specs.Ordering.Next.{Nothing}
use Rattle.mon_legal.specs.Passing.{FramesGoInOrder}
use Rattle.mon_legal.specs.Story.{run, header, emission, add, change_of_add, request, reply, probe_out, probe_in, armed, comes, passes, is_probed, is_confirmed}
use Rattle.mon_legal.proofs.Samples.{out_2, in_2}
use Rattle.mon_legal.proofs.Computed.{computed}
use Rattle.mon_legal.proofs.OrderStands

-- the lower rule, to the controller
abbrev pub low_add : List ℕ
low_add = 1 ∷ 14 ∷ 0 ∷ 80 ∷ 0 ∷ 0 ∷ 0 ∷ 17 ∷ 0 ∷ 56 ∷ 32 ∷ 238 ∷ 0 ∷ 1 ∷ 0 ∷ 0 ∷ 0 ∷ 0 ∷ 0 ∷ 0 ∷ 0 ∷ 0 ∷ 0 ∷ 0 ∷ 0 ∷ 0 ∷ 0 ∷ 0 ∷ 0 ∷ 0 ∷ 8 ∷ 0 ∷ 0 ∷ 0 ∷ 0 ∷ 0 ∷ 0 ∷ 0 ∷ 0 ∷ 0 ∷ 0 ∷ 0 ∷ 0 ∷ 0 ∷ 0 ∷ 0 ∷ 0 ∷ 0 ∷ 0 ∷ 0 ∷ 0 ∷ 0 ∷ 0 ∷ 0 ∷ 0 ∷ 0 ∷ 0 ∷ 0 ∷ 0 ∷ 0 ∷ 0 ∷ 0 ∷ 0 ∷ 50 ∷ 255 ∷ 255 ∷ 255 ∷ 255 ∷ 255 ∷ 255 ∷ 0 ∷ 0 ∷ 0 ∷ 0 ∷ 0 ∷ 8 ∷ 255 ∷ 253 ∷ 255 ∷ 255 ∷ []

abbrev pub low_rule : Rule
low_rule = record { matching = record { wild = record { in_port = false; dl_vlan = true; dl_src = true; dl_dst = true; dl_type = false; nw_proto = true; tp_src = true; tp_dst = true; nw_src = 32; nw_dst = 32; dl_vlan_pcp = true; nw_tos = true }; fields = record { in_port = 1; dl_src = 0; dl_dst = 0; dl_vlan = 0; dl_vlan_pcp = 0; dl_type = 2048; nw_tos = 0; nw_proto = 0; nw_src = 0; nw_dst = 0; tp_src = 0; tp_dst = 0 } }; priority = 50; actions = Output 65533 65535 ∷ []; unsure = false }

abbrev pub low_change : Option Change
low_change = Some (record { edit = edit.Put low_rule None; closing = None })

abbrev pub shows_low : Emission
shows_low = emissions.Controller header

-- the lower rule is confirmed; the upper one is sent, and its probe goes out
abbrev pub probed : List Moment
probed =
    is_probed 2 emission 1 out_2 (comes 0 reply (Is (Noted (Offer 2 0 2 5))
    ∷ passes request request None (passes add add change_of_add (Is (Given (Piece 0 Controller (add ++ request)))
    ∷ is_confirmed 1 0 probe_in (is_probed 1 shows_low 1 probe_out (Is (Noted (Offer 1 0 1 4))
    ∷ passes low_add low_add low_change (Is (Given (Piece 0 Controller low_add)) ∷ armed)))))))

-- it comes back to the controller
abbrev pub returned : List Moment
returned = comes 0 in_2 probed

abbrev pub row : List Moment
row = Is (Noted (Report (Fact 0 2 what.Silent))) ∷ Is (Given Tick) ∷ Went 0 2 1 out_2 false ∷ Is (Given Tick) ∷ Is (Given Tick) ∷ returned

stands : FramesGoInOrder run row
unfolding computed
stands = (tt, refl, (refl, refl, (tt, (1, out_2, false, refl), (refl, refl, (refl, refl, (tt, refl, (refl, refl, (tt, (1, out_2, false, refl), (tt, (emission, refl), (refl, refl, (refl, refl, (tt, refl, (refl, refl, (tt, refl, (tt, (false, refl), (tt, refl, (tt, refl, (tt, refl, (tt, (false, refl), (tt, refl, (tt, refl, (tt, refl, (refl, refl, (tt, refl, (tt, refl, (refl, refl, (tt, (1, probe_out, false, refl), (tt, (shows_low, refl), (refl, refl, (refl, refl, (tt, refl, (tt, (false, refl), (tt, refl, (tt, refl, (tt, refl, (refl, refl, OrderStands.until_armed))))))))))))))))))))))))))))))))))))

ended : next run row ≡ Nothing
unfolding computed
ended = refl
