-- Field by field, one entry more is one step more.
use Rattle.std.specs.Prelude.{◌≡◌, ℕ, Bool, true, false, not, ◌==◌, ◌&&◌, ◌||◌, List, [], ◌∷◌, Option, Some, None, refl}
use Rattle.std.proofs.Common.{arith}
use Rattle.mon_report.specs.declared.line.Line.TheVariants.{Armed, Closed, Confirmed, Fact, Watch}
use Rattle.mon_world.specs.declared.event.Side.TheVariants.{Controller, Switch}
use Rattle.mon_legal.specs.Changing.{plus_if}
use Rattle.mon_legal.specs.Runs.{Run}
use Rattle.mon_legal.specs.Owns.{Own}
use Rattle.mon_legal.specs.Owns.Own.{From_switch, Acts, Sends, Reports}
use Rattle.mon_legal.specs.Owns.Act.{Closing, Reply, Plan, Step}
use Rattle.mon_legal.specs.Messages.{is_barrier_request}
use Rattle.mon_legal.specs.Barriers.{edit_out, guards, requests, count, unanswered, is_armed, kept, just_reported}
use Rattle.mon_legal.specs.Held.{waiting, under_way, last_planned, postponed}
use Rattle.mon_legal.specs.Versions.{miss}
use Rattle.std.specs.Prelude.{filter, map, if◌then◌else◌}
use Rattle.mon_barriers.specs.declared.barriers.Asker.{Asker}
use Rattle.mon_barriers.specs.declared.barriers.Asker.TheVariants as asker
use Rattle.mon_legal.specs.Messages.{is_features_reply}
use Rattle.mon_legal.specs.Barriers.{own_or_controllers, asker_now}
use Rattle.mon_legal.specs.Edits.{Passed, settle, is_number}
use Rattle.mon_legal.specs.Datapaths.{from_switch, replied, first_reply, named_in, datapath, catching, catching_of}
use Rattle.mon_session.specs.Now.{under_way_after, planned_after, catching_after, catching_if, tag_in, known_after, greeted_after, datapath_after, datapath_if, is_some_of, asker_of}
use Rattle.mon_session.specs.Now.{out_after, guards_after, now_of, askers_after, armed_after, kept_after, count_after, waiting_after, postponed_after, miss_now, reported_after, asked_after}

pub armed_stands : (run : Run) (earlier : ℕ) (own : List Own) (o : Own) → is_armed (o ∷ own) ≡ armed_after (now_of run earlier own) o
armed_stands run earlier own (From_switch frame others) = refl
armed_stands run earlier own o = refl

pub kept_stands : (run : Run) (earlier : ℕ) (own : List Own) (o : Own) → kept (o ∷ own) ≡ kept_after (now_of run earlier own) o
kept_stands run earlier own (From_switch frame others) = refl
kept_stands run earlier own (Acts (Closing edit close)) = refl
kept_stands run earlier own (Acts (Reply frame)) = refl
kept_stands run earlier own (Acts (Plan frame)) = refl
kept_stands run earlier own (Acts (Step to frame change)) = refl
kept_stands run earlier own o = refl

pub waiting_stands : (run : Run) (earlier : ℕ) (own : List Own) (o : Own) → waiting (o ∷ own) ≡ waiting_after (now_of run earlier own) o
waiting_stands run earlier own (Acts (Closing edit close)) = refl
waiting_stands run earlier own (Acts (Reply frame)) = refl
waiting_stands run earlier own (Acts (Plan frame)) = refl
waiting_stands run earlier own (Acts (Step to frame change)) = refl
waiting_stands run earlier own o = refl

pub miss_stands : (run : Run) (earlier : ℕ) (own : List Own) (o : Own) → miss (o ∷ own) ≡ miss_now (now_of run earlier own) o
miss_stands run earlier own (Sends Controller frame lost) = refl
miss_stands run earlier own (Sends Switch frame lost) = refl
miss_stands run earlier own o = refl

pub count_stands : (run : Run) (earlier : ℕ) (own : List Own) (o : Own) → count (o ∷ own) ≡ count_after (now_of run earlier own) o
count_stands run earlier own (Sends Controller frame lost) = refl
count_stands run earlier own (Sends Switch frame lost) = refl
count_stands run earlier own o = refl

pub asked_if : (b : Bool) (n : ℕ) → not (plus_if b n == 0) ≡ (not (n == 0) || b)
asked_if true n = grind arith
asked_if false n = grind arith

pub out_stands : (own : List Own) (o : Own) → edit_out (o ∷ own) ≡ out_after o
out_stands own (Acts (Closing edit close)) = refl
out_stands own (Acts (Reply frame)) = refl
out_stands own (Acts (Plan frame)) = refl
out_stands own (Acts (Step Switch frame None)) = refl
out_stands own (Acts (Step Switch frame (Some change))) = refl
out_stands own (Acts (Step Controller frame change)) = refl
out_stands own o = refl

pub guards_stand : (run : Run) (earlier : ℕ) (own : List Own) (o : Own) → guards (o ∷ own) ≡ guards_after (now_of run earlier own) o
guards_stand run earlier own (Sends Controller frame lost) = refl
guards_stand run earlier own (Sends Switch frame lost) = refl
guards_stand run earlier own (From_switch frame others) = refl
guards_stand run earlier own o = refl

pub asked_stands : (run : Run) (earlier : ℕ) (own : List Own) (o : Own) → not (requests (o ∷ own) == 0) ≡ asked_after (now_of run earlier own) o
asked_stands run earlier own (Sends Controller frame lost) = refl
asked_stands run earlier own (Sends Switch frame lost) = asked_if (is_barrier_request frame) (requests own)
asked_stands run earlier own o = refl

pub or_arming : (b : Bool) (x : Asker) → (if b then asker.Arming else x) ≡ (if not b then x else asker.Arming)
or_arming true x = refl
or_arming false x = refl

pub askers_stand : (run : Run) (earlier : ℕ) (own : List Own) (o : Own) → unanswered (o ∷ own) ≡ askers_after (now_of run earlier own) o
askers_stand run earlier own (Sends Controller frame lost) = refl
askers_stand run earlier own (Sends Switch frame lost) =
    let e : asker_now own ≡ asker_of (now_of run earlier own) = or_arming (requests own == 0) (own_or_controllers (just_reported own) (count own)) in
    rw e refl
askers_stand run earlier own (From_switch frame others) = refl
askers_stand run earlier own o = refl

pub reported_stands : (run : Run) (earlier : ℕ) (own : List Own) (o : Own) → just_reported (o ∷ own) ≡ reported_after (now_of run earlier own) o
reported_stands run earlier own (Reports (Fact session edit what)) = refl
reported_stands run earlier own (Reports (Armed session d tag)) = refl
reported_stands run earlier own (Reports (Closed session why)) = refl
reported_stands run earlier own (Reports (Confirmed session edit serial)) = refl
reported_stands run earlier own (Reports (Watch session matching priority serial what)) = refl
reported_stands run earlier own o = refl

pub greeted_stands : (run : Run) (earlier : ℕ) (own : List Own) (o : Own) → not (from_switch (o ∷ own) == 0) ≡ greeted_after (now_of run earlier own) o
greeted_stands run earlier own (From_switch frame others) = grind arith
greeted_stands run earlier own o = refl

pub known_if : (r : Option (List ℕ)) (b : Bool) (frame : List ℕ) → is_some_of (first_reply r b frame) ≡ (is_some_of r || b)
known_if None true frame = refl
known_if None false frame = refl
known_if (Some earlier) b frame = refl

pub known_stands : (run : Run) (earlier : ℕ) (own : List Own) (o : Own) → is_some_of (replied (o ∷ own)) ≡ known_after (now_of run earlier own) o
known_stands run earlier own (From_switch frame others) = known_if (replied own) (not (from_switch own == 0) && is_features_reply frame) frame
known_stands run earlier own o = refl

pub postponed_stands : (run : Run) (earlier : ℕ) (own : List Own) (o : Own) → postponed (o ∷ own) ≡ postponed_after (now_of run earlier own) o
postponed_stands run earlier own (Acts (Closing edit close)) = refl
postponed_stands run earlier own (Acts (Reply frame)) = refl
postponed_stands run earlier own (Acts (Plan frame)) = refl
postponed_stands run earlier own (Acts (Step to frame change)) = refl
postponed_stands run earlier own (From_switch frame others) = refl
postponed_stands run earlier own o = refl

-- unsettled edits: what is settled or rejected goes -----------------------------

pub settled_out : (k : ℕ) (ps : List Passed) → filter (λ p. not p.settled) (map (settle k) ps) ≡ filter (λ p. not (is_number k p)) (filter (λ p. not p.settled) ps)
settled_out k [] = refl
settled_out k (p ∷ ps) = grind (arith, settled_out k ps)

pub filters_swap : (k : ℕ) (ps : List Passed) → filter (λ p. not p.settled) (filter (λ p. not (is_number k p)) ps) ≡ filter (λ p. not (is_number k p)) (filter (λ p. not p.settled) ps)
filters_swap k [] = refl
filters_swap k (p ∷ ps) = grind (arith, filters_swap k ps)

datapath_if_first : (r : Option (List ℕ)) (b : Bool) (frame : List ℕ) → named_in (first_reply r b frame) ≡ datapath_if (not (is_some_of r) && b) frame (named_in r)
datapath_if_first None true frame = refl
datapath_if_first None false frame = refl
datapath_if_first (Some earlier) b frame = refl

pub datapath_stands : (run : Run) (earlier : ℕ) (own : List Own) (o : Own) → datapath (o ∷ own) ≡ datapath_after (now_of run earlier own) o
datapath_stands run earlier own (From_switch frame others) = datapath_if_first (replied own) (not (from_switch own == 0) && is_features_reply frame) frame
datapath_stands run earlier own o = refl

pub under_way_stands : (run : Run) (earlier : ℕ) (own : List Own) (o : Own) → under_way run (o ∷ own) ≡ under_way_after (now_of run earlier own) o
under_way_stands run earlier own (Acts (Closing edit close)) = refl
under_way_stands run earlier own (Acts (Reply frame)) = refl
under_way_stands run earlier own (Acts (Plan frame)) = refl
under_way_stands run earlier own (Acts (Step to frame change)) = refl
under_way_stands run earlier own o = refl

pub planned_stands : (run : Run) (earlier : ℕ) (own : List Own) (o : Own) → last_planned (o ∷ own) ≡ planned_after (now_of run earlier own) o
planned_stands run earlier own (Acts (Closing edit close)) = refl
planned_stands run earlier own (Acts (Reply frame)) = refl
planned_stands run earlier own (Acts (Plan frame)) = refl
planned_stands run earlier own (Acts (Step to frame change)) = refl
planned_stands run earlier own o = refl

-- the datapath of the own reply gives the tag, and the tag the rules
catching-first : (run : Run) (r : Option (List ℕ)) (b : Bool) (frame : List ℕ)
    → catching_of run (tag_in run (named_in (first_reply r b frame))) ≡ catching_if run (not (is_some_of r) && b) frame (catching_of run (tag_in run (named_in r)))
catching-first run None true frame = refl
catching-first run None false frame = refl
catching-first run (Some earlier) b frame = refl

pub catching_stands : (run : Run) (earlier : ℕ) (own : List Own) (o : Own) → catching run (o ∷ own) ≡ catching_after run (now_of run earlier own) o
catching_stands run earlier own (From_switch frame others) =
    catching-first run (replied own) (not (from_switch own == 0) && is_features_reply frame) frame
catching_stands run earlier own o = refl
