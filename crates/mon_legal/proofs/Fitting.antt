-- What a session sees comes where it fits: an output is the first thing that is due, and all else comes where nothing is due.
use Rattle.std.proofs.Common.{◌≡◌, ℕ, ◌+◌, Bool, true, false, cond, not, ◌&&◌, List, [], ◌∷◌, ◌++◌, Option, Some, None, option_map, refl, sym, ap, subst, ◌∙◌, arith, drop, length, map}
use Rattle.std.specs.Prelude.{◌==◌, nat_le}
use Rattle.std.specs.List.{AllByRecursion}
use Rattle.std.proofs.lemmas.Bool.{false≢true}
use Rattle.std.proofs.lemmas.Bool.Decides.{eqb_tells}
use Rattle.std.proofs.lemmas.List.{append_assoc}
use Rattle.of_frame.specs.Header.{kind_of}
use Rattle.mon_header.specs.declared.header.Header.{Header}
use Rattle.mon_outcome.specs.declared.emission.Emission.{Emission}
use Rattle.mon_packet.specs.declared.nonce.Nonce.{Nonce}
use Rattle.mon_packet.specs.Reading.{Read, parsed}
use Rattle.mon_report.specs.declared.line.Line.{Line}
use Rattle.mon_shows.specs.Views.{Viewing}
use Rattle.mon_report.specs.declared.line.Line.TheVariants.{Armed, Confirmed, Fact, Watch}
use Rattle.mon_report.specs.declared.line.Line.TheVariants.{Closed as Closed_line}
use Rattle.mon_world.specs.declared.event.Side.{Side}
use Rattle.mon_world.specs.declared.event.Side.TheVariants.{Controller, Switch}
use Rattle.mon_world.specs.declared.event.Event.TheVariants.{Opened, Closed, Tick}
use Rattle.mon_world.specs.declared.event.Kind.{Kind}
use Rattle.mon_world.specs.declared.event.Note.TheVariants.{Offer, Verdict, Probe, Report}
use Rattle.mon_world.specs.declared.history.Entry.TheVariants.{Given, Noted, Put, End}
use Rattle.mon_legal.specs.Runs.{Run}
use Rattle.mon_legal.specs.Changing.{only, drop_if}
use Rattle.mon_legal.specs.Owns.{Own, Act}
use Rattle.mon_legal.specs.Owns.Own.{Begins, From_controller, From_switch, Breaks, Closes, Ticks, Returns, Judged, Neighbour, Acts, Offers, Probes, Goes_out, Sends, Carries, Reports, Ends}
use Rattle.mon_legal.specs.Messages.{is_features_reply, is_barrier_reply, is_error, is_packet_in, carried_in, arming_frames, features_request, is_light, is_own_error}
use Rattle.mon_legal.specs.Barriers.{is_armed, answered_by, count, edit_out, is_edit}
use Rattle.mon_legal.specs.Datapaths.{from_switch, replied, datapath, named_in, catching}
use Rattle.mon_legal.specs.Held.{due_act}
use Rattle.mon_legal.specs.Directly.{Due, armed_with, armed_line, is_closing, is_over, is_current, owed, owes, on_switch, and_request, is_return, is_own_reply, arming_of, confirmed_with, ends_in, ends_or_arms, fact, frames_to, is_output, is_own_nonce, is_return_in, on_act, on_barrier, on_edit, on_error, on_judged, on_return, refused_reply, rule_of_watch, told}
use Rattle.mon_legal.specs.Directly.Due.{Frame, Tells, Ending, Probing, Going}
use Rattle.mon_legal.specs.Moments.{Moment}
use Rattle.mon_legal.specs.Moments.Moment.{Is, Went, Came, Broke, Did}
use Rattle.mon_legal.specs.Jobs.{Job, job_of, openings, last_job, last_serial}
use Rattle.mon_legal.specs.Sessions.{Parts, part, parts_of, is_open, opened, view, own, sees, if_open, next_slot, neighbour_if, returned, returns_in, returns_with, of_frame, others_if, open_with_slot, arms, session_in, judged_as, judged_if, probed_as, probed_if, are_linked, version, hears}
use Rattle.mon_legal.specs.Ordering.{Next, next, first_with, or_next, due_of, act_of, lost_of, want_of, rest_of_piece, piece_of, first_due}
use Rattle.mon_legal.specs.Ordering.Next.{Meets, Takes, Loses, Handles, Breaks_off, Wants, Nothing}
use Rattle.mon_legal.specs.Passing.{IsMet, Comes, FramesGoInOrder}
use Rattle.mon_legal.specs.Probing.{ProbesSeparate, NoteStands, JustAnswered}
use Rattle.mon_legal.proofs.Coming.{did-is-due, first-has, first-none, some-same, or-none, made-none, piece-none}
use Rattle.mon_barriers.specs.declared.barriers.Asker.TheVariants as asker
use Rattle.mon_world.specs.declared.event.Kind.TheVariants as kind
use Rattle.mon_report.specs.declared.line.What.TheVariants as what
use Rattle.mon_report.specs.declared.line.WatchWhat.TheVariants as watch_what
use Rattle.mon_legal.specs.Owns.Act.{Closing, Plan, Reply, Step}
use Rattle.mon_barriers.specs.declared.barriers.Asker.{Asker}
use Rattle.mon_legal.specs.Ties.{tie}
use Rattle.mon_legal.specs.Probes.{again, confirmed_by, live, probes, silent}
use Rattle.mon_legal.specs.Watching.{missing, seen_by, watch, watch_again}
use Rattle.mon_report.specs.declared.line.WatchWhat.{WatchWhat}
use Rattle.mon_legal.specs.Edits.{changes_nothing, expected, find_passed, is_unsettled, passed, rejected_by, unsettled}
use Rattle.mon_table.specs.declared.edit.Edit.{Edit}
use Rattle.mon_topo.specs.Tags.{tag_of}
use Rattle.mon_report.specs.declared.line.Cause.{Cause}
use Rattle.mon_table.specs.declared.rule.Rule.{Rule}
use Rattle.of_msgs.specs.Layout.{datapath_of}

pub same-of : (a b : ℕ) → (a == b) ≡ true → a ≡ b
same-of a b e = grind (arith, eqb_tells a b, e)

-- what is met ------------------------------------------------------------------

abbrev is_meets : Next → Bool
is_meets (Meets s due) = true
is_meets n = false

-- the moment meets what is due
abbrev pub is_meeting : Moment → Bool
is_meeting (Is (Put s to frame lost)) = true
is_meeting (Is (End s)) = true
is_meeting (Is (Noted (Report line))) = true
is_meeting (Is (Noted (Probe serial job e))) = true
is_meeting (Went s serial near frame lost) = true
is_meeting m = false

met-meeting : (run : Run) (f : List Moment) (s : ℕ) (due : Due) (m : Moment) → IsMet run f s due m → is_meeting m ≡ true
met-meeting run f s (Frame to frame) m c = ap is_meeting c.1
met-meeting run f s (Tells line) m c = ap is_meeting c
met-meeting run f s (Ending why) m c = ap is_meeting c
met-meeting run f s (Probing job edit) m c = ap is_meeting c.1
met-meeting run f s (Going serial) m c = ap is_meeting c.3

unmet : (run : Run) (f : List Moment) (n : Next) (m : Moment) → is_meeting m ≡ false → Comes run f n m → is_meets n ≡ false
unmet run f (Meets s due) m x c = absurd (false≢true (sym x ∙ met-meeting run f s due m c))
unmet run f (Takes s act) m x c = refl
unmet run f (Loses s) m x c = refl
unmet run f (Handles s side frame) m x c = refl
unmet run f (Breaks_off s side fault) m x c = refl
unmet run f (Wants s k) m x c = refl
unmet run f Nothing m x c = refl

rest-quiet : (x : Option (ℕ × Due)) (rest : Next) → is_meets (or_next (option_map (λ p. Meets p.0 p.1) x) rest) ≡ false → x ≡ None
rest-quiet (Some p) rest e = absurd (false≢true (sym e))
rest-quiet None rest e = refl

none-due : (run : Run) (f : List Moment) → is_meets (next run f) ≡ false → first_with (due_of run f) (opened run f) ≡ None
unfolding next
none-due run f e = rest-quiet (first_with (due_of run f) (opened run f)) _ e

abbrev meeter : Next → ℕ
meeter (Meets s due) = s
meeter n = 0

abbrev met : Next → Option Due
met (Meets s due) = Some due
met n = None

rest-meets : (s : ℕ) (due : Due) (x : Option (ℕ × Due)) (rest : Next) → is_meets rest ≡ false → or_next (option_map (λ p. Meets p.0 p.1) x) rest ≡ Meets s due
    → (q : ℕ × Due) × (x ≡ Some q) × (q.0 ≡ s) × (q.1 ≡ due)
rest-meets s due (Some q) rest n e = (q, refl, ap meeter e, some-same q.1 due (ap met e))
rest-meets s due None rest n e = absurd (false≢true (sym n ∙ ap is_meets e))

-- what comes next is due of its session
pub next-meets : (run : Run) (f : List Moment) (s : ℕ) (due : Due) → next run f ≡ Meets s due → due_of run f s ≡ Some due
unfolding next
next-meets run f s due e =
    let all = opened run f in
    let q = rest-meets s due (first_with (due_of run f) all) _
    (or-none is_meets (option_map (λ p. Takes p.0 p.1) (first_with (act_of run f) all)) _ (made-none is_meets (λ (p : ℕ × Act). Takes p.0 p.1) (λ p. refl) (first_with (act_of run f) all))
    (or-none is_meets (option_map (λ p. Loses p.0) (first_with (lost_of run f) all)) _ (made-none is_meets (λ (p : ℕ × Unit {0}). Loses p.0) (λ p. refl) (first_with (lost_of run f) all))
    (or-none is_meets (rest_of_piece run f (piece_of f)) _ (piece-none is_meets (λ r side frame. refl) (λ r side fault. refl) run f (piece_of f))
    (or-none is_meets (option_map (λ p. Wants p.0 p.1) (first_with (want_of run f) all)) Nothing (made-none is_meets (λ (p : ℕ × ℕ). Wants p.0 p.1) (λ p. refl) (first_with (want_of run f) all)) refl)))) e in
    let there : due_of run f q.0.0 ≡ Some q.0.1 = first-has (due_of run f) all q.0 q.1 in
    subst (λ (r : ℕ). due_of run f r ≡ Some due) q.2 (there ∙ ap Some q.3)

-- sessions that were opened ----------------------------------------------------

all-last : (P : ℕ → Type 0) (xs : List ℕ) (n : ℕ) → AllByRecursion P (xs ++ n ∷ []) → P n
all-last P [] n a = a.0
all-last P (x ∷ xs) n a = all-last P xs n a.1

all-front : (P : ℕ → Type 0) (xs : List ℕ) (n : ℕ) → AllByRecursion P (xs ++ n ∷ []) → AllByRecursion P xs
all-front P [] n a = tt
all-front P (x ∷ xs) n a = (a.0, all-front P xs n a.1)

closed-none : (parts : Parts) (s : ℕ) (xs : List Own) → parts s ≡ [] → if_open parts s xs ≡ []
closed-none parts s [] e = refl
closed-none parts s (o ∷ os) e = ap (λ (seen : List Own). only (is_open seen) (o ∷ os)) e

none-seen : (parts : Parts) (s : ℕ) (xs before : List Own) → parts s ≡ [] → before ≡ [] → if_open parts s xs ++ before ≡ []
none-seen parts s xs before e g = rw (closed-none parts s xs e) g

and-no : (a b : Bool) → b ≡ false → a && b ≡ false
and-no true b e = e
and-no false b e = refl

pub hears-none : (line : Line) → hears line [] ≡ false
hears-none (Armed s d n) = refl
hears-none (Closed_line s why) = refl
hears-none (Confirmed s k n) = refl
hears-none (Fact s k what) = refl
hears-none (Watch s m p n w) = refl

none-heard : (run : Run) (s : ℕ) (f : List Moment) (line : Line) → part run s f ≡ []
    → only ((session_in line == s) && hears line (part run s f)) (Reports line ∷ []) ++ [] ++ part run s f ≡ []
none-heard run s f line e =
    ap (λ (seen : List Own). only ((session_in line == s) && hears line seen) (Reports line ∷ []) ++ [] ++ seen) e
    ∙ ap (λ (b : Bool). only b (Reports line ∷ []) ++ [] ++ []) (and-no (session_in line == s) (hears line []) (hears-none line))

-- a session that was not opened has seen nothing
pub opened-or-none : (run : Run) (s : ℕ) (P : ℕ → Type 0) (f : List Moment) → AllByRecursion P (opened run f) → (part run s f ≡ [] → P s) → P s
opened-or-none run s P [] all k = k refl
opened-or-none run s P (Is (Given Opened) ∷ f) all k =
    elim (openings run f == s) as (λ b. (openings run f == s) ≡ b → (only b (Begins (next_slot run f) ∷ []) ++ [] ++ part run s f ≡ [] → P s) → P s) [
      | true ↦ λ y g. subst P (same-of (openings run f) s y) (all-last P (opened run f) (openings run f) all)
      | false ↦ λ y g. opened-or-none run s P f (all-front P (opened run f) (openings run f) all) g
    ] refl k
opened-or-none run s P (Is (Noted (Report line)) ∷ f) all k =
    opened-or-none run s P f all (λ e. k (none-heard run s f line e))
opened-or-none run s P (m ∷ f) all k =
    opened-or-none run s P f all (λ e. k (none-seen (λ r. part run r f) s (sees run (λ r. part run r f) s f m) (part run s f) e e))

-- where something comes that meets nothing, nothing is due of any session
no-dues : (run : Run) (f : List Moment) (s : ℕ) → is_meets (next run f) ≡ false → due_of run f s ≡ None
no-dues run f s x =
    opened-or-none run s (λ r. due_of run f r ≡ None) f (first-none (due_of run f) (opened run f) (none-due run f x))
    (λ e. ap (λ (seen : List Own). first_due (owed run s seen)) e)

pub quiet-at : (run : Run) (s : ℕ) (f : List Moment) (m : Moment) → is_meeting m ≡ false → Comes run f (next run f) m
    → first_due (owed run s (part run s f)) ≡ None
quiet-at run s f m x c = no-dues run f s (unmet run f (next run f) m x c)

-- what fits --------------------------------------------------------------------

abbrev pub EndFits : Option Due → Type 0
EndFits None = Unit {0}
EndFits (Some (Ending why)) = Unit {0}
EndFits (Some due) = ⊥

abbrev pub Fits : Run → ℕ → List Own → Own → Type 0
Fits run s before (Sends to frame lost) = first_due (owed run s before) ≡ Some (Frame to frame)
Fits run s before (Goes_out serial near frame) = first_due (owed run s before) ≡ Some (Going serial)
Fits run s before (Reports line) = first_due (owed run s before) ≡ Some (Tells line)
Fits run s before (Probes serial edit version e shows) = (job : ℕ) × (k : ℕ) × (first_due (owed run s before) ≡ Some (Probing job k))
Fits run s before Ends = EndFits (first_due (owed run s before))
Fits run s before (Carries lost) = Unit {0}
Fits run s before Neighbour = Unit {0}
Fits run s before (Acts act) = (v : Viewing) × (due_act run v before ≡ Some act) × (first_due (owed run s before) ≡ None)
Fits run s before o = first_due (owed run s before) ≡ None

abbrev pub AllFit : Run → ℕ → List Own → Type 0
AllFit run s [] = Unit {0}
AllFit run s (o ∷ before) = Fits run s before o × AllFit run s before

-- some entries over others
abbrev FitsOver : Run → ℕ → List Own → List Own → Type 0
FitsOver run s [] before = Unit {0}
FitsOver run s (o ∷ os) before = Fits run s (os ++ before) o × FitsOver run s os before

over-all : (run : Run) (s : ℕ) (os before : List Own) → FitsOver run s os before → AllFit run s before → AllFit run s (os ++ before)
over-all run s [] before g a = a
over-all run s (o ∷ os) before g a = (g.0, over-all run s os before g.1 a)

over-append : (run : Run) (s : ℕ) (os ps before : List Own) → FitsOver run s os (ps ++ before) → FitsOver run s ps before → FitsOver run s (os ++ ps) before
over-append run s [] ps before g h = h
over-append run s (o ∷ os) ps before g h =
    (subst (λ (seen : List Own). Fits run s seen o) (sym (append_assoc os ps before)) g.0, over-append run s os ps before g.1 h)

over-only : (run : Run) (s : ℕ) (before : List Own) (b : Bool) (o : Own) → (b ≡ true → Fits run s before o) → FitsOver run s (only b (o ∷ [])) before
over-only run s before true o k = (k refl, tt)
over-only run s before false o k = tt

over-open : (run : Run) (s : ℕ) (before : List Own) (parts : Parts) (os : List Own) → FitsOver run s os before → FitsOver run s (if_open parts s os) before
over-open run s before parts [] g = tt
over-open run s before parts (o ∷ os) g =
    elim (is_open (parts s)) as (λ b. FitsOver run s (only b (o ∷ os)) before) [
      | true ↦ g
      | false ↦ tt
    ]

over-neighbour : (run : Run) (s r : ℕ) (before : List Own) (parts : Parts) (b : Bool) → FitsOver run s (neighbour_if run parts s r b) before
over-neighbour run s r before parts true = over-only run s before _ Neighbour (λ y. tt)
over-neighbour run s r before parts false = tt

-- a return ---------------------------------------------------------------------

empty-of : (dues : List Due) → first_due dues ≡ None → dues ≡ []
empty-of [] e = refl
empty-of (due ∷ dues) e = absurd (let g : Some due ≡ None = e in cc)

later-one : (n : ℕ) → (n + 1 == 0) ≡ true → ⊥
later-one n e = let g : n + 1 ≡ 0 = same-of (n + 1) 0 e in omega arith

-- the proxy's request goes out behind the first frame, so no datapath is known before it
first-unknown : (seen : List Own) → (from_switch seen == 0) ≡ true → replied seen ≡ None
first-unknown [] e = refl
first-unknown (From_switch frame others ∷ before) e = absurd (later-one (from_switch before) e)
first-unknown (o ∷ before) e = first-unknown before e

known-later : (seen : List Own) (d : ℕ) → datapath seen ≡ Some d → (from_switch seen == 0) ≡ false
known-later seen d e =
    elim (from_switch seen == 0) as (λ b. (from_switch seen == 0) ≡ b → b ≡ false) [
      | true ↦ λ y. absurd (let n : replied seen ≡ None = first-unknown seen y in let g : None ≡ Some d = sym (ap named_in n) ∙ e in cc)
      | false ↦ λ y. refl
    ] refl

no-and : (a b : Bool) → a ≡ false → a && b ≡ false
no-and true b e = absurd (false≢true (sym e))
no-and false b e = refl

first-of-and : (a b : Bool) → a && b ≡ true → a ≡ true
first-of-and true b e = refl
first-of-and false b e = e

other-kind : (k j : ℕ) → (k == 10) ≡ true → (10 == j) ≡ false → (k == j) ≡ false
other-kind k j e n = let g : k ≡ 10 = same-of k 10 e in subst (λ (i : ℕ). (i == j) ≡ false) (sym g) n

-- none of the earlier fates applies
picked : (a b c d : Bool) (x y z w : List Due) → a ≡ false → b ≡ false → c ≡ false → d ≡ true → cond a x (cond b y (cond c z (cond d [] w))) ≡ []
picked true b c d x y z w e f g h = absurd (false≢true (sym e))
picked false true c d x y z w e f g h = absurd (false≢true (sym f))
picked false false true d x y z w e f g h = absurd (false≢true (sym g))
picked false false false true x y z w e f g h = refl
picked false false false false x y z w e f g h = absurd (false≢true h)

return-leads-to-nothing : (run : Run) (s : ℕ) (taken : List ℕ) (before : List Own) (frame : List ℕ)
    → is_packet_in frame ≡ true → is_return run frame ≡ true → on_switch run s taken before frame ≡ []
unfolding on_switch
return-leads-to-nothing run s taken before frame k r =
    picked (is_own_reply before frame) (is_barrier_reply frame) (is_error frame) (is_return run frame) _ _ _ _
    (and-no _ _ (and-no _ _ (other-kind (kind_of frame) 6 k refl)))
    (other-kind (kind_of frame) 19 k refl) (other-kind (kind_of frame) 1 k refl) r

no-request : (before : List Own) (dues : List Due) → (from_switch before == 0) ≡ false → dues ≡ [] → and_request before dues ≡ []
no-request before dues n e =
    elim (from_switch before == 0) as (λ b. b ≡ false → cond (b && not (ends_in dues)) (dues ++ Frame Switch features_request ∷ []) dues ≡ []) [
      | true ↦ λ y. absurd (false≢true (sym y))
      | false ↦ λ y. e
    ] n

read-in : (frame : List ℕ) (found : Header × Option Nonce) → carried_in frame ≡ Some found → is_packet_in frame ≡ true
read-in frame found e =
    elim (is_packet_in frame && nat_le 18 (length frame)) as (λ b. (is_packet_in frame && nat_le 18 (length frame)) ≡ b → cond b (parsed (drop 18 frame)) None ≡ Some found → is_packet_in frame ≡ true) [
      | true ↦ λ y g. first-of-and (is_packet_in frame) (nat_le 18 (length frame)) y
      | false ↦ λ y g. absurd (let h : None ≡ Some found = g in cc)
    ] refl e

-- the frame that brings a return leads to nothing
after-return : (run : Run) (s : ℕ) (others : List ℕ) (before : List Own) (frame : List ℕ) (found : Header × Option Nonce) (d : ℕ)
    → carried_in frame ≡ Some found → is_return run frame ≡ true → datapath before ≡ Some d → first_due (owed run s before) ≡ None
    → first_due (owed run s (From_switch frame others ∷ before)) ≡ None
after-return run s others before frame found d e r known q =
    let leads = no-request before (on_switch run s others before frame) (known-later before d known)
    (return-leads-to-nothing run s others before frame (read-in frame found e) r) in
    rw leads (rw (empty-of (owed run s before) q) refl)

from-one : (run : Run) (s r : ℕ) (f : List Moment) (b : Bool) (frame : List ℕ) (found : Header × Option Nonce) (d : ℕ) → (r == s) ≡ b
    → carried_in frame ≡ Some found → is_return run frame ≡ true → datapath (part run r f) ≡ Some d → first_due (owed run s (part run s f)) ≡ None
    → first_due (owed run s (of_frame b run (parts_of run f) r f Switch frame ++ part run s f)) ≡ None
from-one run s r f true frame found d y e t known q =
    after-return run s (others_if (is_features_reply frame) (parts_of run f) r (open_with_slot run f)) (part run s f) frame found d e t
    (subst (λ (n : ℕ). datapath (part run n f) ≡ Some d) (same-of r s y) known) q
from-one run s r f false frame found d y e t known q = q

bears : (key : ℕ) (found : Header × Option Nonce) (n : Nonce) → found.1 ≡ Some n → (n.key == key) ≡ true → is_return_in key (Some found) ≡ true
bears key found n e y = subst (λ (o : Option Nonce). is_own_nonce key o ≡ true) (sym e) y

over-returns-with : (run : Run) (s r : ℕ) (f : List Moment) (frame : List ℕ) (found : Header × Option Nonce) (o : Option ℕ) (n : Option Nonce)
    → carried_in frame ≡ Some found → datapath (part run r f) ≡ o → found.1 ≡ n → first_due (owed run s (part run s f)) ≡ None
    → FitsOver run s (returns_with run.key o frame found.0 n) (of_frame (r == s) run (parts_of run f) r f Switch frame ++ part run s f)
over-returns-with run s r f frame found None n e d g q = tt
over-returns-with run s r f frame found (Some d) None e known g q = tt
over-returns-with run s r f frame found (Some d) (Some n) e known g q =
    over-only run s _ (n.key == run.key) _ (λ y.
    from-one run s r f (r == s) frame found d refl e
    (subst (λ (o : Read). is_return_in run.key o ≡ true) (sym e) (bears run.key found n g y)) known q)

over-returns : (run : Run) (s r : ℕ) (f : List Moment) (frame : List ℕ) (o : Read) → carried_in frame ≡ o → first_due (owed run s (part run s f)) ≡ None
    → FitsOver run s (returns_in run.key (parts_of run f) r frame o) (of_frame (r == s) run (parts_of run f) r f Switch frame ++ part run s f)
over-returns run s r f frame None e q = tt
over-returns run s r f frame (Some found) e q = over-returns-with run s r f frame found (datapath (part run r f)) found.1 e refl refl q

over-frame : (run : Run) (s r : ℕ) (f : List Moment) (b : Bool) (side : Side) (frame : List ℕ) → first_due (owed run s (part run s f)) ≡ None
    → FitsOver run s (of_frame b run (parts_of run f) r f side frame) (part run s f)
over-frame run s r f false side frame q = tt
over-frame run s r f true Controller frame q = (q, tt)
over-frame run s r f true Switch frame q = (q, tt)

over-came : (run : Run) (s r : ℕ) (f : List Moment) (side : Side) (frame : List ℕ) → first_due (owed run s (part run s f)) ≡ None
    → FitsOver run s (returned run (parts_of run f) r side frame ++ of_frame (r == s) run (parts_of run f) r f side frame) (part run s f)
over-came run s r f Controller frame q = over-frame run s r f (r == s) Controller frame q
over-came run s r f Switch frame q =
    over-append run s (returned run (parts_of run f) r Switch frame) (of_frame (r == s) run (parts_of run f) r f Switch frame) (part run s f)
    (over-returns run s r f frame (carried_in frame) refl q) (over-frame run s r f (r == s) Switch frame q)

-- outputs ----------------------------------------------------------------------

comes-put : (run : Run) (f : List Moment) (n : Next) (r : ℕ) (to : Side) (frame : List ℕ) (lost : Bool) → Comes run f n (Is (Put r to frame lost)) → n ≡ Meets r (Frame to frame)
comes-put run f (Meets s (Frame to₂ frame₂)) r to frame lost c = let e : Is (Put r to frame lost) ≡ Is (Put s to₂ frame₂ c.0) = c.1 in cc
comes-put run f (Meets s (Tells line)) r to frame lost c = absurd (let e : Is (Put r to frame lost) ≡ Is (Noted (Report line)) = c in cc)
comes-put run f (Meets s (Ending why)) r to frame lost c = absurd (let e : Is (Put r to frame lost) ≡ Is (End s) = c in cc)
comes-put run f (Meets s (Probing job k)) r to frame lost c = absurd (let e : Is (Put r to frame lost) ≡ Is (Noted (Probe (last_serial run f + 1) job c.0)) = c.1 in cc)
comes-put run f (Meets s (Going serial)) r to frame lost c = absurd (let e : Is (Put r to frame lost) ≡ Went s serial c.0 c.1 c.2 = c.3 in cc)
comes-put run f (Takes s act) r to frame lost c = absurd (let e : Is (Put r to frame lost) ≡ Did s act = c in cc)
comes-put run f (Loses s) r to frame lost c = absurd (let e : Is (Put r to frame lost) ≡ Is (End s) = c in cc)
comes-put run f (Handles s side x) r to frame lost c = absurd (let e : Is (Put r to frame lost) ≡ Came s side x = c in cc)
comes-put run f (Breaks_off s side x) r to frame lost c = absurd (let e : Is (Put r to frame lost) ≡ Broke s side x = c in cc)
comes-put run f (Wants s k) r to frame lost c = absurd (let e : Is (Put r to frame lost) ≡ Is (Noted (Offer (last_job run f + 1) s k (version run s f))) = c in cc)
comes-put run f Nothing r to frame lost c = absurd (false≢true c)

comes-went : (run : Run) (f : List Moment) (n : Next) (r serial near : ℕ) (frame : List ℕ) (lost : Bool) → Comes run f n (Went r serial near frame lost) → n ≡ Meets r (Going serial)
comes-went run f (Meets s (Frame to₂ frame₂)) r serial near frame lost c = absurd (let e : Went r serial near frame lost ≡ Is (Put s to₂ frame₂ c.0) = c.1 in cc)
comes-went run f (Meets s (Tells line)) r serial near frame lost c = absurd (let e : Went r serial near frame lost ≡ Is (Noted (Report line)) = c in cc)
comes-went run f (Meets s (Ending why)) r serial near frame lost c = absurd (let e : Went r serial near frame lost ≡ Is (End s) = c in cc)
comes-went run f (Meets s (Probing job k)) r serial near frame lost c = absurd (let e : Went r serial near frame lost ≡ Is (Noted (Probe (last_serial run f + 1) job c.0)) = c.1 in cc)
comes-went run f (Meets s (Going other)) r serial near frame lost c = let e : Went r serial near frame lost ≡ Went s other c.0 c.1 c.2 = c.3 in cc
comes-went run f (Takes s act) r serial near frame lost c = absurd (let e : Went r serial near frame lost ≡ Did s act = c in cc)
comes-went run f (Loses s) r serial near frame lost c = absurd (let e : Went r serial near frame lost ≡ Is (End s) = c in cc)
comes-went run f (Handles s side x) r serial near frame lost c = absurd (let e : Went r serial near frame lost ≡ Came s side x = c in cc)
comes-went run f (Breaks_off s side x) r serial near frame lost c = absurd (let e : Went r serial near frame lost ≡ Broke s side x = c in cc)
comes-went run f (Wants s k) r serial near frame lost c = absurd (let e : Went r serial near frame lost ≡ Is (Noted (Offer (last_job run f + 1) s k (version run s f))) = c in cc)
comes-went run f Nothing r serial near frame lost c = absurd (false≢true c)

comes-report : (run : Run) (f : List Moment) (n : Next) (line : Line) → Comes run f n (Is (Noted (Report line))) → (s : ℕ) × (n ≡ Meets s (Tells line))
comes-report run f (Meets s (Frame to frame)) line c = absurd (let e : Is (Noted (Report line)) ≡ Is (Put s to frame c.0) = c.1 in cc)
comes-report run f (Meets s (Tells other)) line c = (s, let e : Is (Noted (Report line)) ≡ Is (Noted (Report other)) = c in cc)
comes-report run f (Meets s (Ending why)) line c = absurd (let e : Is (Noted (Report line)) ≡ Is (End s) = c in cc)
comes-report run f (Meets s (Probing job k)) line c = absurd (let e : Is (Noted (Report line)) ≡ Is (Noted (Probe (last_serial run f + 1) job c.0)) = c.1 in cc)
comes-report run f (Meets s (Going serial)) line c = absurd (let e : Is (Noted (Report line)) ≡ Went s serial c.0 c.1 c.2 = c.3 in cc)
comes-report run f (Takes s act) line c = absurd (let e : Is (Noted (Report line)) ≡ Did s act = c in cc)
comes-report run f (Loses s) line c = absurd (let e : Is (Noted (Report line)) ≡ Is (End s) = c in cc)
comes-report run f (Handles s side x) line c = absurd (let e : Is (Noted (Report line)) ≡ Came s side x = c in cc)
comes-report run f (Breaks_off s side x) line c = absurd (let e : Is (Noted (Report line)) ≡ Broke s side x = c in cc)
comes-report run f (Wants s k) line c = absurd (let e : Is (Noted (Report line)) ≡ Is (Noted (Offer (last_job run f + 1) s k (version run s f))) = c in cc)
comes-report run f Nothing line c = absurd (false≢true c)

comes-probe : (run : Run) (f : List Moment) (n : Next) (serial job : ℕ) (x : Emission) → Comes run f n (Is (Noted (Probe serial job x))) → (s : ℕ) × (k : ℕ) × (n ≡ Meets s (Probing job k))
comes-probe run f (Meets s (Frame to frame)) serial job x c = absurd (let e : Is (Noted (Probe serial job x)) ≡ Is (Put s to frame c.0) = c.1 in cc)
comes-probe run f (Meets s (Tells line)) serial job x c = absurd (let e : Is (Noted (Probe serial job x)) ≡ Is (Noted (Report line)) = c in cc)
comes-probe run f (Meets s (Ending why)) serial job x c = absurd (let e : Is (Noted (Probe serial job x)) ≡ Is (End s) = c in cc)
comes-probe run f (Meets s (Probing other k)) serial job x c = (s, k, let e : Is (Noted (Probe serial job x)) ≡ Is (Noted (Probe (last_serial run f + 1) other c.0)) = c.1 in cc)
comes-probe run f (Meets s (Going other)) serial job x c = absurd (let e : Is (Noted (Probe serial job x)) ≡ Went s other c.0 c.1 c.2 = c.3 in cc)
comes-probe run f (Takes s act) serial job x c = absurd (let e : Is (Noted (Probe serial job x)) ≡ Did s act = c in cc)
comes-probe run f (Loses s) serial job x c = absurd (let e : Is (Noted (Probe serial job x)) ≡ Is (End s) = c in cc)
comes-probe run f (Handles s side y) serial job x c = absurd (let e : Is (Noted (Probe serial job x)) ≡ Came s side y = c in cc)
comes-probe run f (Breaks_off s side y) serial job x c = absurd (let e : Is (Noted (Probe serial job x)) ≡ Broke s side y = c in cc)
comes-probe run f (Wants s k) serial job x c = absurd (let e : Is (Noted (Probe serial job x)) ≡ Is (Noted (Offer (last_job run f + 1) s k (version run s f))) = c in cc)
comes-probe run f Nothing serial job x c = absurd (false≢true c)

abbrev ender : Moment → ℕ
ender (Is (End s)) = s
ender m = 0

ends-fit : (run : Run) (f : List Moment) (n : Next) (r : ℕ) → next run f ≡ n → Comes run f n (Is (End r)) → EndFits (due_of run f r)
ends-fit run f (Meets s (Frame to frame)) r y c = absurd (let e : Is (End r) ≡ Is (Put s to frame c.0) = c.1 in cc)
ends-fit run f (Meets s (Tells line)) r y c = absurd (let e : Is (End r) ≡ Is (Noted (Report line)) = c in cc)
ends-fit run f (Meets s (Ending why)) r y c =
    let e : r ≡ s = ap ender c in
    subst EndFits (sym (subst (λ (q : ℕ). due_of run f q ≡ Some (Ending why)) (sym e) (next-meets run f s (Ending why) y))) tt
ends-fit run f (Meets s (Probing job k)) r y c = absurd (let e : Is (End r) ≡ Is (Noted (Probe (last_serial run f + 1) job c.0)) = c.1 in cc)
ends-fit run f (Meets s (Going serial)) r y c = absurd (let e : Is (End r) ≡ Went s serial c.0 c.1 c.2 = c.3 in cc)
ends-fit run f (Takes s act) r y c = absurd (let e : Is (End r) ≡ Did s act = c in cc)
ends-fit run f (Loses s) r y c = subst EndFits (sym (no-dues run f r (subst (λ (n : Next). is_meets n ≡ false) (sym y) refl))) tt
ends-fit run f (Handles s side x) r y c = absurd (let e : Is (End r) ≡ Came s side x = c in cc)
ends-fit run f (Breaks_off s side x) r y c = absurd (let e : Is (End r) ≡ Broke s side x = c in cc)
ends-fit run f (Wants s k) r y c = absurd (let e : Is (End r) ≡ Is (Noted (Offer (last_job run f + 1) s k (version run s f))) = c in cc)
ends-fit run f Nothing r y c = absurd (false≢true c)

-- lines tell of their own session, and only some entries lead to frames for the controller ---

abbrev pub LineOf : ℕ → Bool → Due → Type 0
LineOf s c (Tells line) = session_in line ≡ s
LineOf s c (Frame Controller frame) = c ≡ true
LineOf s c due = Unit {0}

abbrev pub AllOf : ℕ → Bool → List Due → Type 0
AllOf s c dues = AllByRecursion (LineOf s c) dues

more-frame : (s : ℕ) (to : Side) (frame : List ℕ) → LineOf s false (Frame to frame) → LineOf s true (Frame to frame)
more-frame s Controller frame a = refl
more-frame s Switch frame a = tt

all-more : (s : ℕ) (c : Bool) (xs : List Due) → AllOf s c xs → AllOf s true xs
all-more s true xs a = a
all-more s false [] a = tt
all-more s false (Tells line ∷ xs) a = (a.0, all-more s false xs a.1)
all-more s false (Frame to frame ∷ xs) a = (more-frame s to frame a.0, all-more s false xs a.1)
all-more s false (Ending why ∷ xs) a = (tt, all-more s false xs a.1)
all-more s false (Probing job k ∷ xs) a = (tt, all-more s false xs a.1)
all-more s false (Going n ∷ xs) a = (tt, all-more s false xs a.1)

all-append : (s : ℕ) (c : Bool) (xs ys : List Due) → AllOf s c xs → AllOf s c ys → AllOf s c (xs ++ ys)
all-append s c [] ys a b = b
all-append s c (x ∷ xs) ys a b = (a.0, all-append s c xs ys a.1 b)

all-drop : (s : ℕ) (c : Bool) (b : Bool) (xs : List Due) → AllOf s c xs → AllOf s c (drop_if b xs)
all-drop s c true [] a = tt
all-drop s c true (x ∷ xs) a = a.1
all-drop s c false xs a = a

all-cond : (s : ℕ) (c : Bool) (b : Bool) (xs ys : List Due) → AllOf s c xs → AllOf s c ys → AllOf s c (cond b xs ys)
all-cond s c true xs ys a b = a
all-cond s c false xs ys a b = b

all-frames : (s : ℕ) (c : Bool) (frames : List (List ℕ)) → AllOf s c (frames_to Switch frames)
all-frames s c [] = tt
all-frames s c (frame ∷ frames) = (tt, all-frames s c frames)

all-going : (s : ℕ) (c : Bool) (serials : List ℕ) → AllOf s c (map Going serials)
all-going s c [] = tt
all-going s c (n ∷ serials) = (tt, all-going s c serials)

all-silent : (s : ℕ) (c : Bool) (edits : List ℕ) → AllOf s c (map (λ k. fact s k what.Silent) edits)
all-silent s c [] = tt
all-silent s c (k ∷ edits) = (refl, all-silent s c edits)

all-told : (s : ℕ) (c : Bool) (serial : Option ℕ) (w : WatchWhat) (r : Option Rule) → AllOf s c (told s serial w r)
all-told s c serial w None = tt
all-told s c serial w (Some r) = (refl, tt)

all-arming : (run : Run) (s : ℕ) (c : Bool) (tag : Option ℕ) → AllOf s c (arming_of run tag)
all-arming run s c None = tt
all-arming run s c (Some tag) = all-frames s c (arming_frames tag run.in_use)

all-ends-or-arms : (run : Run) (s : ℕ) (c : Bool) (d : Option ℕ) (why : Option Cause) → AllOf s c (ends_or_arms run d why)
all-ends-or-arms run s c d (Some why) = (tt, tt)
all-ends-or-arms run s c None None = tt
all-ends-or-arms run s c (Some d) None = all-arming run s c (tag_of d run.given)

all-armed-with : (s : ℕ) (c : Bool) (d : ℕ) (tag : Option ℕ) → AllOf s c (armed_with s d tag)
all-armed-with s c d None = tt
all-armed-with s c d (Some tag) = (refl, tt)

all-armed : (run : Run) (s : ℕ) (c : Bool) (d : Option ℕ) → AllOf s c (armed_line run s d)
all-armed run s c None = tt
all-armed run s c (Some d) = all-armed-with s c d (tag_of d run.given)

all-on-barrier : (run : Run) (s : ℕ) (before : List Own) (frame : List ℕ) (who : Option Asker) → AllOf s true (on_barrier run s before frame who)
all-on-barrier run s before frame None = (refl, tt)
all-on-barrier run s before frame (Some asker.Arming) = all-armed run s true (datapath before)
all-on-barrier run s before frame (Some (asker.Own k)) = all-cond s true (is_unsettled before k) _ _ (refl, tt) tt
all-on-barrier run s before frame (Some (asker.Controller edits)) = tt

all-on-error : (s : ℕ) (before : List Own) (frame : List ℕ) (k : Option ℕ) → AllOf s true (on_error s before frame k)
all-on-error s before frame (Some k) = (refl, (refl, tt))
all-on-error s before frame None = all-cond s true (is_own_error frame) _ _ (all-cond s true (is_armed before) _ _ tt (tt, tt)) (refl, tt)

all-on-switch : (run : Run) (s : ℕ) (taken : List ℕ) (before : List Own) (frame : List ℕ) → AllOf s true (on_switch run s taken before frame)
unfolding on_switch
all-on-switch run s taken before frame =
    all-cond s true (is_own_reply before frame) _ _ (all-ends-or-arms run s true (datapath_of frame) (refused_reply run taken (datapath_of frame)))
    (all-cond s true (is_barrier_reply frame) _ _ (all-on-barrier run s before frame (answered_by before frame))
    (all-cond s true (is_error frame) _ _ (all-on-error s before frame (rejected_by frame (passed before)))
    (all-cond s true (is_return run frame) _ _ tt (refl, tt))))

all-requested : (s : ℕ) (c : Bool) (before : List Own) (dues : List Due) → AllOf s c dues → AllOf s c (and_request before dues)
all-requested s c before dues a = all-cond s c _ _ _ (all-append s c dues (Frame Switch features_request ∷ []) a (tt, tt)) a

all-on-edit : (s : ℕ) (c : Bool) (k : ℕ) (t : List Rule) (x : Option Edit) → AllOf s c (on_edit s k t x)
all-on-edit s c k t None = tt
all-on-edit s c k t (Some x) = all-cond s c (changes_nothing x) _ _ (refl, tt) (all-cond s c (tie t x) _ _ (refl, (tt, tt)) tt)

all-on-judged : (run : Run) (s : ℕ) (c : Bool) (before : List Own) (job k : ℕ) (kind : Kind) → AllOf s c (on_judged run s before job k kind)
all-on-judged run s c before job k kind.Probe = (tt, tt)
all-on-judged run s c before job k kind.Indistinguishable =
    all-cond s c (k == 0) _ _ (all-told s c None watch_what.Unwatchable (rule_of_watch (watch run before))) (refl, (tt, tt))
all-on-judged run s c before job k kind.Skipped = tt

all-confirmed-with : (s : ℕ) (c : Bool) (b : Bool) → AllOf s c (confirmed_with b)
all-confirmed-with s c true = (tt, tt)
all-confirmed-with s c false = tt

all-on-return : (s : ℕ) (c : Bool) (before : List Own) (serial : ℕ) (k : Option ℕ) → AllOf s c (on_return s before serial k)
all-on-return s c before serial None = tt
all-on-return s c before serial (Some k) = (refl, all-confirmed-with s c (is_over (find_passed k before)))

to-true : (s : ℕ) (to : Side) (frame : List ℕ) → LineOf s true (Frame to frame)
to-true s Controller frame = refl
to-true s Switch frame = tt

all-on-act : (s : ℕ) (before : List Own) (act : Act) → AllOf s true (on_act s before act)
all-on-act s before (Closing k close) = (tt, (refl, (tt, tt)))
all-on-act s before (Reply frame) = (refl, tt)
all-on-act s before (Plan frame) = tt
all-on-act s before (Step to frame change) = (to-true s to frame, tt)

-- the frames of the switch and the steps alone lead to frames for the controller
abbrev pub leads_back : Own → Bool
leads_back (From_switch frame others) = true
leads_back (Acts act) = true
leads_back o = false

pub all-owes : (run : Run) (s : ℕ) (dues : List Due) (before : List Own) (o : Own) → AllOf s (leads_back o) (owes run s dues before o)
all-owes run s dues before (Begins None) = (tt, tt)
all-owes run s dues before (From_controller frame) = all-cond s false (is_light frame) _ _ (tt, tt) tt
all-owes run s dues before (From_switch frame others) = all-requested s true before _ (all-on-switch run s others before frame)
all-owes run s dues before (Breaks fault) = (tt, tt)
all-owes run s dues before Closes = (tt, tt)
all-owes run s dues before (Ticks version) =
    all-append s false (map Going (again run version (unsettled before) (live run before) ++ watch_again run version (watch run before))) _
    (all-going s false (again run version (unsettled before) (live run before) ++ watch_again run version (watch run before)))
    (all-append s false (map (λ k. fact s k what.Silent) (silent run (unsettled before))) _ (all-silent s false (silent run (unsettled before)))
    (all-told s false None watch_what.Missing (missing run version (watch run before))))
all-owes run s dues before (Returns serial seen) =
    all-append s false (on_return s before serial (confirmed_by serial seen before)) _ (all-on-return s false before serial (confirmed_by serial seen before))
    (all-told s false (Some serial) watch_what.Seen (seen_by serial seen (watch run before)))
all-owes run s dues before (Judged job k kind fresh) = all-cond s false (is_current run before job k fresh) _ _ (all-on-judged run s false before job k kind) tt
all-owes run s dues before (Acts act) = all-on-act s before act
all-owes run s dues before (Probes serial k version emission shows) = (tt, tt)
all-owes run s dues before (Sends Switch frame lost) =
    all-cond s false (is_edit before && not (is_closing before)) _ _
    (all-on-edit s false (count before + 1) (expected (catching run before) (Sends Switch frame lost ∷ before)) (edit_out before)) tt
all-owes run s dues before Ends = (refl, tt)
all-owes run s dues before o = tt

all-owed : (run : Run) (s : ℕ) (seen : List Own) → AllOf s true (owed run s seen)
all-owed run s [] = tt
all-owed run s (o ∷ before) =
    all-append s true (owes run s (owed run s before) before o) _ (all-more s (leads_back o) _ (all-owes run s (owed run s before) before o))
    (all-drop s true (is_output o) (owed run s before) (all-owed run s before))

first-line : (s : ℕ) (dues : List Due) (line : Line) → AllOf s true dues → first_due dues ≡ Some (Tells line) → session_in line ≡ s
first-line s [] line a e = absurd (let g : None ≡ Some (Tells line) = e in cc)
first-line s (due ∷ dues) line a e = subst (LineOf s true) (some-same due (Tells line) e) a.0

-- each moment ------------------------------------------------------------------

fits-at : (run : Run) (s r : ℕ) (f : List Moment) (due : Due) → next run f ≡ Meets r due → r ≡ s → first_due (owed run s (part run s f)) ≡ Some due
fits-at run s r f due e y = subst (λ (q : ℕ). due_of run f q ≡ Some due) y (next-meets run f r due e)

fits-line : (run : Run) (s : ℕ) (f : List Moment) (line : Line) → Comes run f (next run f) (Is (Noted (Report line))) → (session_in line == s) ≡ true
    → first_due (owed run s (part run s f)) ≡ Some (Tells line)
fits-line run s f line c y =
    let m = comes-report run f (next run f) line c in
    let e = next-meets run f m.0 (Tells line) m.1 in
    let g : session_in line ≡ m.0 = first-line m.0 (owed run m.0 (part run m.0 f)) line (all-owed run m.0 (part run m.0 f)) e in
    fits-at run s m.0 f (Tells line) m.1 (sym g ∙ same-of (session_in line) s y)

over-judged-if : (run : Run) (s : ℕ) (f : List Moment) (b : Bool) (job : Job) (kind : Kind) → first_due (owed run s (part run s f)) ≡ None
    → FitsOver run s (judged_if b run (parts_of run f) f job kind) (part run s f)
over-judged-if run s f true job kind q = (q, tt)
over-judged-if run s f false job kind q = tt

over-judged : (run : Run) (s : ℕ) (f : List Moment) (o : Option Job) (kind : Kind) → first_due (owed run s (part run s f)) ≡ None
    → FitsOver run s (judged_as run (parts_of run f) s f o kind) (part run s f)
over-judged run s f None kind q = tt
over-judged run s f (Some job) kind q = over-judged-if run s f (job.session == s) job kind q

-- an answer's turn: the session of the job alone saw it
answer-of : (run : Run) (f : List Moment) (answered : ℕ) (kind : Kind) (s : ℕ) (due : Due) (o : Option Job) → first_due (owed run s (part run s f)) ≡ None
    → first_due (owed run s (if_open (parts_of run f) s (judged_as run (parts_of run f) s f o kind) ++ part run s f)) ≡ Some due
    → (job : Job) × (o ≡ Some job) × (job.session ≡ s)
answer-of run f answered kind s due None q e = absurd (let g : None ≡ Some due = sym q ∙ e in cc)
answer-of run f answered kind s due (Some job) q e =
    elim (job.session == s) as (λ b. (job.session == s) ≡ b
    → first_due (owed run s (if_open (parts_of run f) s (judged_if b run (parts_of run f) f job kind) ++ part run s f)) ≡ Some due
    → (job_ : Job) × (Some job ≡ Some job_) × (job_.session ≡ s)) [
      | true ↦ λ y g. (job, refl, same-of job.session s y)
      | false ↦ λ y g. absurd (let h : None ≡ Some due = sym q ∙ g in cc)
    ] refl e

over-probed-if : (run : Run) (s : ℕ) (f : List Moment) (b : Bool) (serial : ℕ) (job : Job) (x : Emission) (number k : ℕ)
    → (b ≡ true → first_due (owed run s (part run s f)) ≡ Some (Probing number k))
    → FitsOver run s (probed_if b run (parts_of run f) f serial job x) (part run s f)
over-probed-if run s f true serial job x number k due = ((number, k, due refl), tt)
over-probed-if run s f false serial job x number k due = tt

over-probe : (run : Run) (s : ℕ) (f : List Moment) (serial job : ℕ) (x : Emission) → FramesGoInOrder run f → JustAnswered run f job kind.Probe
    → Comes run f (next run f) (Is (Noted (Probe serial job x))) → FitsOver run s (probed_as run (parts_of run f) s f serial (job_of job f) x) (part run s f)
over-probe run s (Is (Noted (Verdict answered given)) ∷ f) serial job x order just c =
    let V = Is (Noted (Verdict answered given)) in
    let m = comes-probe run (V ∷ f) (next run (V ∷ f)) serial job x c in
    let due = next-meets run (V ∷ f) m.0 (Probing job m.1) m.2 in
    let j = answer-of run f answered given m.0 (Probing job m.1) (job_of answered f) (quiet-at run m.0 f V refl order.1) due in
    let same : job_of job f ≡ Some j.0 = subst (λ (n : ℕ). job_of n f ≡ Some j.0) just.0 j.1 in
    subst (λ (o : Option Job). FitsOver run s (probed_as run (parts_of run (V ∷ f)) s (V ∷ f) serial o x) (part run s (V ∷ f))) (sym same)
    (over-probed-if run s (V ∷ f) (j.0.session == s) serial j.0 x job m.1
    (λ y. fits-at run s m.0 (V ∷ f) (Probing job m.1) m.2 (sym j.2 ∙ same-of j.0.session s y)))
over-probe run s f serial job x order just c = absurd just

over-end : (run : Run) (s : ℕ) (before : List Own) (parts : Parts) (r : ℕ) (b : Bool) → ((r == s) ≡ true → EndFits (first_due (owed run s before)))
    → FitsOver run s (only (r == s) (Ends ∷ []) ++ neighbour_if run parts s r b) before
over-end run s before parts r true fit =
    elim (not (s == r) && are_linked run.topology (datapath (parts s)) (datapath (parts r))) as (λ b. FitsOver run s (only (r == s) (Ends ∷ []) ++ only b (Neighbour ∷ [])) before) [
      | true ↦ over-append run s (only (r == s) (Ends ∷ [])) (Neighbour ∷ []) before (over-only run s (Neighbour ∷ before) (r == s) Ends fit) (tt, tt)
      | false ↦ over-append run s (only (r == s) (Ends ∷ [])) [] before (over-only run s before (r == s) Ends fit) tt
    ]
over-end run s before parts r false fit = over-append run s (only (r == s) (Ends ∷ [])) [] before (over-only run s before (r == s) Ends fit) tt

over-went : (run : Run) (s r near serial : ℕ) (frame : List ℕ) (lost : Bool) (before : List Own) → ((r == s) ≡ true → first_due (owed run s before) ≡ Some (Going serial))
    → FitsOver run s (only (near == s) (Carries lost ∷ []) ++ only (r == s) (Goes_out serial near frame ∷ [])) before
over-went run s r near serial frame lost before fit =
    over-append run s (only (near == s) (Carries lost ∷ [])) (only (r == s) (Goes_out serial near frame ∷ [])) before
    (over-only run s (only (r == s) (Goes_out serial near frame ∷ []) ++ before) (near == s) (Carries lost) (λ y. tt)) (over-only run s before (r == s) (Goes_out serial near frame) fit)

fits-one : (run : Run) (s : ℕ) (f : List Moment) (m : Moment) → FramesGoInOrder run f → NoteStands run f m → Comes run f (next run f) m
    → FitsOver run s (own run (parts_of run f) s f m) (part run s f)
fits-one run s f (Is (Given Opened)) order stands c =
    over-append run s (only (openings run f == s) (Begins (next_slot run f) ∷ [])) [] (part run s f)
    (over-only run s (part run s f) (openings run f == s) (Begins (next_slot run f)) (λ y. quiet-at run s f (Is (Given Opened)) refl c)) tt
fits-one run s f (Is (Given (Closed r))) order stands c =
    over-open run s (part run s f) (parts_of run f) (only (r == s) (Closes ∷ []))
    (over-only run s (part run s f) (r == s) Closes (λ y. quiet-at run s f (Is (Given (Closed r))) refl c))
fits-one run s f (Is (Given Tick)) order stands c =
    over-open run s (part run s f) (parts_of run f) (sees run (parts_of run f) s f (Is (Given Tick))) (quiet-at run s f (Is (Given Tick)) refl c, tt)
fits-one run s f (Is (Given event)) order stands c = tt
fits-one run s f (Is (Noted (Offer job r k v))) order stands c =
    over-open run s (part run s f) (parts_of run f) (only (r == s) (Offers job k ∷ []))
    (over-only run s (part run s f) (r == s) (Offers job k) (λ y. quiet-at run s f (Is (Noted (Offer job r k v))) refl c))
fits-one run s f (Is (Noted (Verdict job kind))) order stands c =
    over-open run s (part run s f) (parts_of run f) (judged_as run (parts_of run f) s f (job_of job f) kind)
    (over-judged run s f (job_of job f) kind (quiet-at run s f (Is (Noted (Verdict job kind))) refl c))
fits-one run s f (Is (Noted (Probe serial job x))) order stands c =
    over-open run s (part run s f) (parts_of run f) (probed_as run (parts_of run f) s f serial (job_of job f) x)
    (over-probe run s f serial job x order stands.0 c)
fits-one run s f (Is (Noted (Report line))) order stands c =
    let b = (session_in line == s) && hears line (part run s f) in
    over-append run s (only b (Reports line ∷ [])) [] (part run s f)
    (over-only run s (part run s f) b (Reports line) (λ y. fits-line run s f line c (first-of-and (session_in line == s) (hears line (part run s f)) y))) tt
fits-one run s f (Is (Put r to frame lost)) order stands c =
    over-open run s (part run s f) (parts_of run f) (only (r == s) (Sends to frame lost ∷ []))
    (over-only run s (part run s f) (r == s) (Sends to frame lost)
    (λ y. fits-at run s r f (Frame to frame) (comes-put run f (next run f) r to frame lost c) (same-of r s y)))
fits-one run s f (Is (End r)) order stands c =
    over-open run s (part run s f) (parts_of run f) (only (r == s) (Ends ∷ []) ++ neighbour_if run (parts_of run f) s r (is_armed (part run r f)))
    (over-end run s (part run s f) (parts_of run f) r (is_armed (part run r f))
    (λ y. subst (λ (q : ℕ). EndFits (due_of run f q)) (same-of r s y) (ends-fit run f (next run f) r refl c)))
fits-one run s f (Went r serial near frame lost) order stands c =
    over-open run s (part run s f) (parts_of run f) (only (near == s) (Carries lost ∷ []) ++ only (r == s) (Goes_out serial near frame ∷ []))
    (over-went run s r near serial frame lost (part run s f)
    (λ y. fits-at run s r f (Going serial) (comes-went run f (next run f) r serial near frame lost c) (same-of r s y)))
fits-one run s f (Came r side frame) order stands c =
    let q = quiet-at run s f (Came r side frame) refl c in
    let back = returned run (parts_of run f) r side frame in
    let from = of_frame (r == s) run (parts_of run f) r f side frame in
    over-open run s (part run s f) (parts_of run f) (sees run (parts_of run f) s f (Came r side frame))
    (over-append run s (neighbour_if run (parts_of run f) s r (arms (parts_of run f) r side frame)) (back ++ from) (part run s f)
    (over-neighbour run s r ((back ++ from) ++ part run s f) (parts_of run f) (arms (parts_of run f) r side frame)) (over-came run s r f side frame q))
fits-one run s f (Broke r side fault) order stands c =
    over-open run s (part run s f) (parts_of run f) (only (r == s) (Breaks fault ∷ []))
    (over-only run s (part run s f) (r == s) (Breaks fault) (λ y. quiet-at run s f (Broke r side fault) refl c))
fits-one run s f (Did r act) order stands c =
    over-open run s (part run s f) (parts_of run f) (only (r == s) (Acts act ∷ []))
    (over-only run s (part run s f) (r == s) (Acts act) (λ y.
    let e = same-of r s y in
    let due = did-is-due run f r act c in
    (view run r f, subst (λ (q : ℕ). due_act run (view run r f) (part run q f) ≡ Some act) e due.1, quiet-at run s f (Did r act) refl c)))

-- all that a session sees fits
pub all-fit : (run : Run) (f : List Moment) → FramesGoInOrder run f → ProbesSeparate run f → (s : ℕ) → AllFit run s (part run s f)
all-fit run [] order probes s = tt
all-fit run (m ∷ f) order probes s =
    over-all run s (own run (parts_of run f) s f m) (part run s f) (fits-one run s f m order.2 probes.1.0 order.1) (all-fit run f order.2 probes.2 s)

-- where a turn has ended nothing is due
pub nothing-due : (run : Run) (f : List Moment) (s : ℕ) → next run f ≡ Nothing → owed run s (part run s f) ≡ []
nothing-due run f s e = empty-of (owed run s (part run s f)) (no-dues run f s (ap is_meets e))
