-- The ordinary use of three switches: they are armed, an ADD is passed, its probe comes back, and the reply to a barrier goes.
-- What a row of histories has several times is a function: the moments that it adds stand newest first.
use Rattle.std.specs.Prelude.{ℕ, true, false, List, [], ◌∷◌, ◌++◌, Option, Some, None}
use Rattle.mon_header.specs.declared.action.Action.TheVariants.{Output}
use Rattle.mon_header.specs.declared.header.Header.{Header}
use Rattle.mon_table.specs.declared.rule.Rule.{Rule}
use Rattle.mon_table.specs.declared.edit.Edit.TheVariants as edit
use Rattle.mon_outcome.specs.declared.emission.Emission.{Emission}
use Rattle.mon_outcome.specs.declared.emission.Emission.TheVariants.{Port}
use Rattle.mon_report.specs.declared.line.Line.TheVariants.{Armed, Confirmed}
use Rattle.mon_world.specs.declared.event.Side.TheVariants.{Controller, Switch}
use Rattle.mon_world.specs.declared.event.Event.TheVariants.{Opened, Piece, Answer, Stop}
use Rattle.mon_world.specs.declared.event.Note.TheVariants.{Offer, Verdict, Probe, Report}
use Rattle.mon_world.specs.declared.event.Kind.TheVariants as kind
use Rattle.mon_world.specs.declared.history.Entry.TheVariants.{Given, Noted, Put}
use Rattle.mon_legal.specs.Runs.{Run}
use Rattle.mon_legal.specs.Owns.{Change}
use Rattle.mon_legal.specs.Owns.Act.{Reply, Plan, Step}
use Rattle.mon_legal.specs.Moments.{Moment}
use Rattle.mon_legal.specs.Moments.Moment.{Is, Went, Came, Did}

abbrev pub run : Run
run = record {
  key = 1;
  topology = record {
    switches = 1 ∷ 2 ∷ 3 ∷ [];
    links = record { a = 1; a_port = 1; b = 2; b_port = 1 } ∷ record { a = 1; a_port = 2; b = 3; b_port = 1 } ∷ [];
  };
  given = record { switch = 1; tag = 100 } ∷ record { switch = 2; tag = 101 } ∷ record { switch = 3; tag = 101 } ∷ [];
  in_use = 100 ∷ 101 ∷ [];
  retry_ticks = 2;
  alarm_ticks = 3;
  watch_ticks = 0;
  openings = 0;
  last_serial = 0;
  last_job = 0;
}

-- frames ----------------------------------------------------------------------

-- a HELLO
abbrev pub hello : List ℕ
hello = 1 ∷ 0 ∷ 0 ∷ 8 ∷ 0 ∷ 0 ∷ 0 ∷ 1 ∷ []

-- the proxy asks a switch which one it is
abbrev pub features_wanted : List ℕ
features_wanted = 1 ∷ 5 ∷ 0 ∷ 8 ∷ 77 ∷ 111 ∷ 110 ∷ 111 ∷ []

-- each of the switches tells
abbrev pub features_1 : List ℕ
features_1 = 1 ∷ 6 ∷ 0 ∷ 32 ∷ 77 ∷ 111 ∷ 110 ∷ 111 ∷ 0 ∷ 0 ∷ 0 ∷ 0 ∷ 0 ∷ 0 ∷ 0 ∷ 1 ∷ 0 ∷ 0 ∷ 1 ∷ 0 ∷ 1 ∷ 0 ∷ 0 ∷ 0 ∷ 0 ∷ 0 ∷ 0 ∷ 0 ∷ 0 ∷ 0 ∷ 15 ∷ 255 ∷ []

abbrev pub features_2 : List ℕ
features_2 = 1 ∷ 6 ∷ 0 ∷ 32 ∷ 77 ∷ 111 ∷ 110 ∷ 111 ∷ 0 ∷ 0 ∷ 0 ∷ 0 ∷ 0 ∷ 0 ∷ 0 ∷ 2 ∷ 0 ∷ 0 ∷ 1 ∷ 0 ∷ 1 ∷ 0 ∷ 0 ∷ 0 ∷ 0 ∷ 0 ∷ 0 ∷ 0 ∷ 0 ∷ 0 ∷ 15 ∷ 255 ∷ []

abbrev pub features_3 : List ℕ
features_3 = 1 ∷ 6 ∷ 0 ∷ 32 ∷ 77 ∷ 111 ∷ 110 ∷ 111 ∷ 0 ∷ 0 ∷ 0 ∷ 0 ∷ 0 ∷ 0 ∷ 0 ∷ 3 ∷ 0 ∷ 0 ∷ 1 ∷ 0 ∷ 1 ∷ 0 ∷ 0 ∷ 0 ∷ 0 ∷ 0 ∷ 0 ∷ 0 ∷ 0 ∷ 0 ∷ 15 ∷ 255 ∷ []

-- the proxy's barrier and its reply
abbrev pub own_request : List ℕ
own_request = 1 ∷ 18 ∷ 0 ∷ 8 ∷ 77 ∷ 111 ∷ 110 ∷ 111 ∷ []

abbrev pub own_reply : List ℕ
own_reply = 1 ∷ 19 ∷ 0 ∷ 8 ∷ 77 ∷ 111 ∷ 110 ∷ 111 ∷ []

-- the controller's barrier and its reply
abbrev pub request : List ℕ
request = 1 ∷ 18 ∷ 0 ∷ 8 ∷ 0 ∷ 0 ∷ 0 ∷ 18 ∷ []

abbrev pub reply : List ℕ
reply = 1 ∷ 19 ∷ 0 ∷ 8 ∷ 0 ∷ 0 ∷ 0 ∷ 18 ∷ []

-- what arms a switch: all entries go, packets come whole up to 128 bytes, packets with another switch's tag come, and marked ones
-- are dropped
abbrev pub clears : List ℕ
clears = 1 ∷ 14 ∷ 0 ∷ 72 ∷ 77 ∷ 111 ∷ 110 ∷ 111 ∷ 0 ∷ 56 ∷ 32 ∷ 255 ∷ 0 ∷ 0 ∷ 0 ∷ 0 ∷ 0 ∷ 0 ∷ 0 ∷ 0 ∷ 0 ∷ 0 ∷ 0 ∷ 0 ∷ 0 ∷ 0 ∷ 0 ∷ 0 ∷ 0 ∷ 0 ∷ 0 ∷ 0 ∷ 0 ∷ 0 ∷ 0 ∷ 0 ∷ 0 ∷ 0 ∷ 0 ∷ 0 ∷ 0 ∷ 0 ∷ 0 ∷ 0 ∷ 0 ∷ 0 ∷ 0 ∷ 0 ∷ 0 ∷ 0 ∷ 0 ∷ 0 ∷ 0 ∷ 0 ∷ 0 ∷ 0 ∷ 0 ∷ 3 ∷ 0 ∷ 0 ∷ 0 ∷ 0 ∷ 0 ∷ 0 ∷ 255 ∷ 255 ∷ 255 ∷ 255 ∷ 255 ∷ 255 ∷ 0 ∷ 0 ∷ []

abbrev pub tells_128 : List ℕ
tells_128 = 1 ∷ 9 ∷ 0 ∷ 12 ∷ 77 ∷ 111 ∷ 110 ∷ 111 ∷ 0 ∷ 0 ∷ 0 ∷ 128 ∷ []

abbrev pub catches_101 : List ℕ
catches_101 = 1 ∷ 14 ∷ 0 ∷ 80 ∷ 77 ∷ 111 ∷ 110 ∷ 111 ∷ 0 ∷ 56 ∷ 32 ∷ 253 ∷ 0 ∷ 0 ∷ 0 ∷ 0 ∷ 0 ∷ 0 ∷ 0 ∷ 0 ∷ 0 ∷ 0 ∷ 0 ∷ 0 ∷ 0 ∷ 0 ∷ 0 ∷ 101 ∷ 0 ∷ 0 ∷ 0 ∷ 0 ∷ 0 ∷ 0 ∷ 0 ∷ 0 ∷ 0 ∷ 0 ∷ 0 ∷ 0 ∷ 0 ∷ 0 ∷ 0 ∷ 0 ∷ 0 ∷ 0 ∷ 0 ∷ 0 ∷ 0 ∷ 0 ∷ 0 ∷ 0 ∷ 0 ∷ 0 ∷ 0 ∷ 0 ∷ 0 ∷ 0 ∷ 0 ∷ 0 ∷ 0 ∷ 0 ∷ 255 ∷ 255 ∷ 255 ∷ 255 ∷ 255 ∷ 255 ∷ 255 ∷ 255 ∷ 0 ∷ 0 ∷ 0 ∷ 0 ∷ 0 ∷ 8 ∷ 255 ∷ 253 ∷ 255 ∷ 255 ∷ []

abbrev pub catches_100 : List ℕ
catches_100 = 1 ∷ 14 ∷ 0 ∷ 80 ∷ 77 ∷ 111 ∷ 110 ∷ 111 ∷ 0 ∷ 56 ∷ 32 ∷ 253 ∷ 0 ∷ 0 ∷ 0 ∷ 0 ∷ 0 ∷ 0 ∷ 0 ∷ 0 ∷ 0 ∷ 0 ∷ 0 ∷ 0 ∷ 0 ∷ 0 ∷ 0 ∷ 100 ∷ 0 ∷ 0 ∷ 0 ∷ 0 ∷ 0 ∷ 0 ∷ 0 ∷ 0 ∷ 0 ∷ 0 ∷ 0 ∷ 0 ∷ 0 ∷ 0 ∷ 0 ∷ 0 ∷ 0 ∷ 0 ∷ 0 ∷ 0 ∷ 0 ∷ 0 ∷ 0 ∷ 0 ∷ 0 ∷ 0 ∷ 0 ∷ 0 ∷ 0 ∷ 0 ∷ 0 ∷ 0 ∷ 0 ∷ 0 ∷ 255 ∷ 255 ∷ 255 ∷ 255 ∷ 255 ∷ 255 ∷ 255 ∷ 255 ∷ 0 ∷ 0 ∷ 0 ∷ 0 ∷ 0 ∷ 8 ∷ 255 ∷ 253 ∷ 255 ∷ 255 ∷ []

abbrev pub drops_marked : List ℕ
drops_marked = 1 ∷ 14 ∷ 0 ∷ 72 ∷ 77 ∷ 111 ∷ 110 ∷ 111 ∷ 0 ∷ 56 ∷ 32 ∷ 247 ∷ 0 ∷ 0 ∷ 0 ∷ 0 ∷ 0 ∷ 0 ∷ 0 ∷ 0 ∷ 2 ∷ 77 ∷ 79 ∷ 78 ∷ 79 ∷ 0 ∷ 0 ∷ 0 ∷ 0 ∷ 0 ∷ 0 ∷ 0 ∷ 0 ∷ 0 ∷ 0 ∷ 0 ∷ 0 ∷ 0 ∷ 0 ∷ 0 ∷ 0 ∷ 0 ∷ 0 ∷ 0 ∷ 0 ∷ 0 ∷ 0 ∷ 0 ∷ 0 ∷ 0 ∷ 0 ∷ 0 ∷ 0 ∷ 0 ∷ 0 ∷ 0 ∷ 0 ∷ 0 ∷ 0 ∷ 0 ∷ 0 ∷ 0 ∷ 255 ∷ 254 ∷ 255 ∷ 255 ∷ 255 ∷ 255 ∷ 255 ∷ 255 ∷ 0 ∷ 0 ∷ []

-- the ADD of a rule for all IPv4 to 10.0.0.0/24, of priority 100, to port 2, and its rule
abbrev pub add : List ℕ
add = 1 ∷ 14 ∷ 0 ∷ 80 ∷ 0 ∷ 0 ∷ 0 ∷ 17 ∷ 0 ∷ 50 ∷ 32 ∷ 239 ∷ 0 ∷ 0 ∷ 0 ∷ 0 ∷ 0 ∷ 0 ∷ 0 ∷ 0 ∷ 0 ∷ 0 ∷ 0 ∷ 0 ∷ 0 ∷ 0 ∷ 0 ∷ 0 ∷ 0 ∷ 0 ∷ 8 ∷ 0 ∷ 0 ∷ 0 ∷ 0 ∷ 0 ∷ 0 ∷ 0 ∷ 0 ∷ 0 ∷ 10 ∷ 0 ∷ 0 ∷ 0 ∷ 0 ∷ 0 ∷ 0 ∷ 0 ∷ 0 ∷ 0 ∷ 0 ∷ 0 ∷ 0 ∷ 0 ∷ 0 ∷ 0 ∷ 0 ∷ 0 ∷ 0 ∷ 0 ∷ 0 ∷ 0 ∷ 0 ∷ 100 ∷ 255 ∷ 255 ∷ 255 ∷ 255 ∷ 255 ∷ 255 ∷ 0 ∷ 0 ∷ 0 ∷ 0 ∷ 0 ∷ 8 ∷ 0 ∷ 2 ∷ 0 ∷ 0 ∷ []

abbrev pub rule_of_add : Rule
rule_of_add = record { matching = record { wild = record { in_port = true; dl_vlan = true; dl_src = true; dl_dst = true; dl_type = false; nw_proto = true; tp_src = true; tp_dst = true; nw_src = 32; nw_dst = 8; dl_vlan_pcp = true; nw_tos = true }; fields = record { in_port = 0; dl_src = 0; dl_dst = 0; dl_vlan = 0; dl_vlan_pcp = 0; dl_type = 2048; nw_tos = 0; nw_proto = 0; nw_src = 0; nw_dst = 167772160; tp_src = 0; tp_dst = 0 } }; priority = 100; actions = Output 2 0 ∷ []; unsure = false }

-- the packet that shows it, as it leaves by port 2, goes out at switch 2, and comes in at switch 3
abbrev pub header : Header
header = record { in_port = 1; dl_src = 2199023255553; dl_dst = 2199023255554; dl_vlan = 100; dl_vlan_pcp = 0; dl_type = 2048; nw_tos = 0; nw_proto = 255; nw_src = 167772169; nw_dst = 167772160; tp_src = 0; tp_dst = 0 }

abbrev pub emission : Emission
emission = Port 2 header

abbrev pub probe_out : List ℕ
probe_out = 1 ∷ 13 ∷ 0 ∷ 88 ∷ 77 ∷ 111 ∷ 110 ∷ 111 ∷ 255 ∷ 255 ∷ 255 ∷ 255 ∷ 255 ∷ 255 ∷ 0 ∷ 8 ∷ 0 ∷ 0 ∷ 0 ∷ 8 ∷ 0 ∷ 1 ∷ 0 ∷ 0 ∷ 2 ∷ 0 ∷ 0 ∷ 0 ∷ 0 ∷ 2 ∷ 2 ∷ 0 ∷ 0 ∷ 0 ∷ 0 ∷ 1 ∷ 129 ∷ 0 ∷ 0 ∷ 100 ∷ 8 ∷ 0 ∷ 69 ∷ 0 ∷ 0 ∷ 44 ∷ 0 ∷ 0 ∷ 0 ∷ 0 ∷ 64 ∷ 255 ∷ 101 ∷ 203 ∷ 10 ∷ 0 ∷ 0 ∷ 9 ∷ 10 ∷ 0 ∷ 0 ∷ 0 ∷ 77 ∷ 79 ∷ 78 ∷ 79 ∷ 67 ∷ 76 ∷ 69 ∷ 49 ∷ 0 ∷ 0 ∷ 0 ∷ 0 ∷ 0 ∷ 0 ∷ 0 ∷ 1 ∷ 0 ∷ 0 ∷ 0 ∷ 0 ∷ 0 ∷ 0 ∷ 0 ∷ 1 ∷ 0 ∷ 0 ∷ []

abbrev pub probe_in : List ℕ
probe_in = 1 ∷ 10 ∷ 0 ∷ 82 ∷ 0 ∷ 0 ∷ 0 ∷ 0 ∷ 255 ∷ 255 ∷ 255 ∷ 255 ∷ 0 ∷ 64 ∷ 0 ∷ 1 ∷ 1 ∷ 0 ∷ 2 ∷ 0 ∷ 0 ∷ 0 ∷ 0 ∷ 2 ∷ 2 ∷ 0 ∷ 0 ∷ 0 ∷ 0 ∷ 1 ∷ 129 ∷ 0 ∷ 0 ∷ 100 ∷ 8 ∷ 0 ∷ 69 ∷ 0 ∷ 0 ∷ 44 ∷ 0 ∷ 0 ∷ 0 ∷ 0 ∷ 64 ∷ 255 ∷ 101 ∷ 203 ∷ 10 ∷ 0 ∷ 0 ∷ 9 ∷ 10 ∷ 0 ∷ 0 ∷ 0 ∷ 77 ∷ 79 ∷ 78 ∷ 79 ∷ 67 ∷ 76 ∷ 69 ∷ 49 ∷ 0 ∷ 0 ∷ 0 ∷ 0 ∷ 0 ∷ 0 ∷ 0 ∷ 1 ∷ 0 ∷ 0 ∷ 0 ∷ 0 ∷ 0 ∷ 0 ∷ 0 ∷ 1 ∷ 0 ∷ 0 ∷ []

-- several moments ---------------------------------------------------------------

-- a frame of a switch comes in a piece of its own
abbrev pub comes : ℕ → List ℕ → List Moment → List Moment
comes s frame f = Came s Switch frame ∷ Is (Given (Piece s Switch frame)) ∷ f

-- a switch greets, and is asked which one it is
abbrev pub greets : ℕ → List Moment → List Moment
greets s f = Is (Put s Switch features_wanted false) ∷ Is (Put s Controller hello false) ∷ comes s hello f

-- it tells, and is to be armed, with an entry for another switch's tag
abbrev pub is_told : ℕ → List ℕ → List ℕ → List Moment → List Moment
is_told s features catching f =
    Is (Put s Switch own_request false) ∷ Is (Put s Switch drops_marked false) ∷ Is (Put s Switch catching false)
    ∷ Is (Put s Switch tells_128 false) ∷ Is (Put s Switch clears false) ∷ comes s features f

-- it is armed
abbrev pub is_armed : ℕ → ℕ → ℕ → List Moment → List Moment
is_armed s datapath tag f = Is (Noted (Report (Armed s datapath tag))) ∷ comes s own_reply f

-- a frame of the controller that came goes on to the first switch, maybe as another one
abbrev pub goes_on : List ℕ → List ℕ → Option Change → List Moment → List Moment
goes_on frame put change f = Is (Put 0 Switch put false) ∷ Did 0 (Step Switch put change) ∷ Did 0 (Plan frame) ∷ f

abbrev pub passes : List ℕ → List ℕ → Option Change → List Moment → List Moment
passes frame put change f = goes_on frame put change (Came 0 Controller frame ∷ f)

-- the job of this number is answered, and its probe goes out at this neighbour
abbrev pub is_probed : ℕ → Emission → ℕ → List ℕ → List Moment → List Moment
is_probed n e near out f =
    Went 0 n near out false ∷ Is (Noted (Probe n n e)) ∷ Is (Noted (Verdict n kind.Probe)) ∷ Is (Given (Answer 0)) ∷ f

-- the probe comes back, and the edit of the same number is confirmed
abbrev pub is_confirmed : ℕ → ℕ → List ℕ → List Moment → List Moment
is_confirmed n s back f = Is (Noted (Report (Confirmed 0 n n))) ∷ comes s back f

-- the ordinary use ---------------------------------------------------------------

abbrev pub opened : List Moment
opened = Is (Given Opened) ∷ Is (Given Opened) ∷ Is (Given Opened) ∷ []

abbrev pub greeted : List Moment
greeted = greets 2 (greets 1 (greets 0 opened))

abbrev pub armed : List Moment
armed =
    is_armed 2 3 101 (is_armed 1 2 101 (is_armed 0 1 100
    (is_told 2 features_3 catches_100 (is_told 1 features_2 catches_100 (is_told 0 features_1 catches_101 greeted)))))

-- the controller sends the ADD and a barrier in one piece
abbrev pub sent : List Moment
sent = Is (Given (Piece 0 Controller (add ++ request))) ∷ armed

abbrev pub change_of_add : Option Change
change_of_add = Some (record { edit = edit.Put rule_of_add None; closing = None })

-- both went on, and the switch answered the barrier
abbrev pub answered : List Moment
answered = comes 0 reply (Is (Noted (Offer 1 0 1 4)) ∷ passes request request None (passes add add change_of_add sent))

abbrev pub probed : List Moment
probed = is_probed 1 emission 1 probe_out answered

abbrev pub confirmed : List Moment
confirmed = Is (Put 0 Controller reply false) ∷ Did 0 (Reply reply) ∷ is_confirmed 1 2 probe_in probed

abbrev pub the_ordinary_use : List Moment
the_ordinary_use = Is (Given Stop) ∷ confirmed
