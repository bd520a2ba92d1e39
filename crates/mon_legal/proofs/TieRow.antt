-- Two rules that tie: the second waits for the first, is reported as overlapping, and its barrier settles it.
use Rattle.std.specs.Prelude.{◌≡◌, ℕ, true, false, List, [], ◌∷◌, ◌++◌, Option, Some, None, refl}
use Rattle.mon_header.specs.declared.action.Action.TheVariants.{Output}
use Rattle.mon_table.specs.declared.rule.Rule.{Rule}
use Rattle.mon_table.specs.declared.edit.Edit.TheVariants as edit
use Rattle.mon_report.specs.declared.line.Line.TheVariants.{Fact}
use Rattle.mon_report.specs.declared.line.What.TheVariants as what
use Rattle.mon_world.specs.declared.event.Side.TheVariants.{Controller, Switch}
use Rattle.mon_world.specs.declared.event.Event.TheVariants.{Piece}
use Rattle.mon_world.specs.declared.event.Note.TheVariants.{Offer, Report}
use Rattle.mon_world.specs.declared.history.Entry.TheVariants.{Given, Noted, Put}
use Rattle.mon_legal.specs.Moments.{Moment}
use Rattle.mon_legal.specs.Moments.Moment.{Is, Came}
use Rattle.mon_legal.specs.Owns.{Change}
use Rattle.mon_legal.specs.Ordering.{next}
use Rattle.mon_legal.specs.Ordering.Next.{Nothing}
use Rattle.mon_legal.specs.Passing.{FramesGoInOrder}
use Rattle.mon_legal.specs.Story.{run, own_request, own_reply, emission, probe_out, probe_in, armed, comes, passes, goes_on, is_probed, is_confirmed}
use Rattle.mon_legal.proofs.Computed.{computed}
use Rattle.mon_legal.proofs.OrderStands

abbrev pub from_8 : List ℕ
from_8 = 1 ∷ 14 ∷ 0 ∷ 80 ∷ 0 ∷ 0 ∷ 0 ∷ 17 ∷ 0 ∷ 56 ∷ 24 ∷ 239 ∷ 0 ∷ 0 ∷ 0 ∷ 0 ∷ 0 ∷ 0 ∷ 0 ∷ 0 ∷ 0 ∷ 0 ∷ 0 ∷ 0 ∷ 0 ∷ 0 ∷ 0 ∷ 0 ∷ 0 ∷ 0 ∷ 8 ∷ 0 ∷ 0 ∷ 0 ∷ 0 ∷ 0 ∷ 10 ∷ 0 ∷ 0 ∷ 0 ∷ 0 ∷ 0 ∷ 0 ∷ 0 ∷ 0 ∷ 0 ∷ 0 ∷ 0 ∷ 0 ∷ 0 ∷ 0 ∷ 0 ∷ 0 ∷ 0 ∷ 0 ∷ 0 ∷ 0 ∷ 0 ∷ 0 ∷ 0 ∷ 0 ∷ 0 ∷ 0 ∷ 100 ∷ 255 ∷ 255 ∷ 255 ∷ 255 ∷ 255 ∷ 255 ∷ 0 ∷ 0 ∷ 0 ∷ 0 ∷ 0 ∷ 8 ∷ 0 ∷ 2 ∷ 0 ∷ 0 ∷ []

abbrev pub to_8 : List ℕ
to_8 = 1 ∷ 14 ∷ 0 ∷ 80 ∷ 0 ∷ 0 ∷ 0 ∷ 17 ∷ 0 ∷ 54 ∷ 32 ∷ 239 ∷ 0 ∷ 0 ∷ 0 ∷ 0 ∷ 0 ∷ 0 ∷ 0 ∷ 0 ∷ 0 ∷ 0 ∷ 0 ∷ 0 ∷ 0 ∷ 0 ∷ 0 ∷ 0 ∷ 0 ∷ 0 ∷ 8 ∷ 0 ∷ 0 ∷ 0 ∷ 0 ∷ 0 ∷ 0 ∷ 0 ∷ 0 ∷ 0 ∷ 10 ∷ 0 ∷ 0 ∷ 0 ∷ 0 ∷ 0 ∷ 0 ∷ 0 ∷ 0 ∷ 0 ∷ 0 ∷ 0 ∷ 0 ∷ 0 ∷ 0 ∷ 0 ∷ 0 ∷ 0 ∷ 0 ∷ 0 ∷ 0 ∷ 0 ∷ 0 ∷ 100 ∷ 255 ∷ 255 ∷ 255 ∷ 255 ∷ 255 ∷ 255 ∷ 0 ∷ 0 ∷ 0 ∷ 0 ∷ 0 ∷ 8 ∷ 0 ∷ 2 ∷ 0 ∷ 0 ∷ []

abbrev pub rule_from_8 : Rule
rule_from_8 = record { matching = record { wild = record { in_port = true; dl_vlan = true; dl_src = true; dl_dst = true; dl_type = false; nw_proto = true; tp_src = true; tp_dst = true; nw_src = 24; nw_dst = 32; dl_vlan_pcp = true; nw_tos = true }; fields = record { in_port = 0; dl_src = 0; dl_dst = 0; dl_vlan = 0; dl_vlan_pcp = 0; dl_type = 2048; nw_tos = 0; nw_proto = 0; nw_src = 167772160; nw_dst = 0; tp_src = 0; tp_dst = 0 } }; priority = 100; actions = Output 2 0 ∷ []; unsure = false }

abbrev pub rule_to_8 : Rule
rule_to_8 = record { matching = record { wild = record { in_port = true; dl_vlan = true; dl_src = true; dl_dst = true; dl_type = false; nw_proto = true; tp_src = true; tp_dst = true; nw_src = 32; nw_dst = 24; dl_vlan_pcp = true; nw_tos = true }; fields = record { in_port = 0; dl_src = 0; dl_dst = 0; dl_vlan = 0; dl_vlan_pcp = 0; dl_type = 2048; nw_tos = 0; nw_proto = 0; nw_src = 0; nw_dst = 167772160; tp_src = 0; tp_dst = 0 } }; priority = 100; actions = Output 2 0 ∷ []; unsure = false }

abbrev pub change : Rule → Option Change
change r = Some (record { edit = edit.Put r None; closing = None })

-- the first ADD passed, and the second one came
abbrev pub waiting : List Moment
waiting = Came 0 Controller to_8 ∷ passes from_8 from_8 (change rule_from_8) (Is (Given (Piece 0 Controller (from_8 ++ to_8))) ∷ armed)

abbrev pub row : List Moment
row =
    Is (Noted (Report (Fact 0 2 what.Settled)))
    ∷ comes 0 own_reply (Is (Put 0 Switch own_request false) ∷ Is (Noted (Report (Fact 0 2 what.Overlap)))
    ∷ goes_on to_8 to_8 (change rule_to_8) (is_confirmed 1 2 probe_in (is_probed 1 emission 1 probe_out (Is (Noted (Offer 1 0 1 4)) ∷ waiting))))

stands : FramesGoInOrder run row
unfolding computed
stands = (tt, refl, (tt, refl, (refl, refl, (tt, (false, refl), (tt, refl, (tt, (false, refl), (tt, refl, (tt, refl, (tt, refl, (tt, refl, (refl, refl, (tt, (1, probe_out, false, refl), (tt, (emission, refl), (refl, refl, (refl, refl, (tt, refl, (tt, refl, (tt, (false, refl), (tt, refl, (tt, refl, (tt, refl, (refl, refl, OrderStands.until_armed))))))))))))))))))))))

ended : next run row ≡ Nothing
unfolding computed
ended = refl
