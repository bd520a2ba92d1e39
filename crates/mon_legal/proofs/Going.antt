-- All frames of a session go on in order, because what it sees fits.
use Rattle.std.proofs.Common.{◌≡◌, ℕ, Bool, true, false, cond, not, ◌&&◌, ◌||◌, List, [], ◌∷◌, ◌++◌, map, drop, Option, Some, None, option_map, refl, sym, ap, subst, ◌∙◌}
use Rattle.std.specs.Prelude.{◌==◌, is_none, is_some, find}
use Rattle.std.proofs.lemmas.Bool.{false≢true}
use Rattle.std.proofs.lemmas.List.{append_assoc, append-nil, map-append}
use Rattle.mon_legal.specs.Runs.{Run}
use Rattle.mon_legal.specs.Changing.{only, with_if}
use Rattle.mon_legal.specs.Owns.{Own, Act, Change, Close}
use Rattle.mon_legal.specs.Sides.{sent, goes_on, for_controller, replies, let_go, is_controllers, frame_due, frames_due, own_frames, for_switch, ordered, planned, fates, steps, LetsOut, LetOut}
use Rattle.mon_legal.proofs.Fitting.{AllFit, EndFits, AllOf, all-owes}
use Rattle.mon_legal.specs.Datapaths as Datapaths
use Rattle.mon_barriers.specs.declared.barriers.Reply.{Reply as Kept}
use Rattle.mon_barriers.specs.Barriers.{released}
use Rattle.std.specs.List.{list_any}
use Rattle.mon_legal.proofs.Coming.{some-same}
use Rattle.mon_barriers.specs.declared.barriers.Asker.TheVariants as asker
use Rattle.mon_report.specs.declared.line.Cause.TheVariants as cause
use Rattle.mon_report.specs.declared.line.What.TheVariants as what
use Rattle.mon_legal.specs.Edits.{is_unsettled, passed, rejected_by, Passed, entries, expected, oldest, unsettled}
use Rattle.mon_legal.specs.Directly.Due.{Ending, Frame, Going, Probing, Tells}
use Rattle.mon_legal.specs.Barriers.{answered_by, is_armed, kept, kept_if, unanswered}
use Rattle.mon_legal.specs.Owns.Own.{Acts, Carries, Ends, From_controller, From_switch, Goes_out, Neighbour, Probes, Reports, Sends}
use Rattle.mon_legal.specs.Owns.Act.{Closing, Plan, Reply, Step}
use Rattle.mon_legal.specs.Messages.{arming_frames, features_request, is_barrier_reply, is_error, is_light, is_own_error}
use Rattle.mon_legal.specs.Directly.{Due, armed_with, armed_line, arming_of, ends_in, ends_or_arms, fact, frames_to, is_own_reply, is_return, on_act, on_barrier, on_error, on_switch, owed, owes, refused_reply}
use Rattle.mon_topo.specs.Tags.{tag_of}
use Rattle.mon_barriers.specs.declared.barriers.Asker.{Asker}
use Rattle.mon_legal.specs.Sessions.{version}
use Rattle.of_msgs.specs.Layout.{datapath_of}
use Rattle.mon_legal.specs.Ordering.{first_due, same_side}
use Rattle.mon_report.specs.declared.line.Cause.{Cause}
use Rattle.mon_world.specs.declared.event.Side.{Side}
use Rattle.mon_world.specs.declared.event.Side.TheVariants.{Controller, Switch}
use Rattle.mon_legal.specs.Datapaths.{datapath, catching}
use Rattle.mon_report.specs.declared.line.What.{What}
use Rattle.mon_legal.specs.Held.{Part, Postponed, act_due, awaited, awaited_by, change_of, due_act, due_closing, due_reply, due_step, fate, may_if, or_else, planned_if, postponed, step_of, under_way, waiting}
use Rattle.mon_table.specs.declared.edit.Edit.{Edit}
use Rattle.mon_legal.specs.Held.Part.{Changed, Refused, Whole}
use Rattle.mon_table.specs.declared.rule.Rule.{Rule}
use Rattle.mon_legal.proofs.Waiting.{released-first, reply-due}
use Rattle.mon_shows.specs.Views.{Viewing}
use Rattle.mon_legal.specs.Postponing.{stand_in_for}
use Rattle.of_msgs.specs.declared.flow_mod.FlowMod.{FlowMod}

-- all that is asked, and all that is sent -----------------------------------------

abbrev asked : Side → Run → ℕ → List Own → List (List ℕ)
asked to run s [] = []
asked to run s (o ∷ before) = asked to run s before ++ frames_due to (owes run s (owed run s before) before o)

due-append : (to : Side) (xs ys : List Due) → frames_due to (xs ++ ys) ≡ frames_due to xs ++ frames_due to ys
due-append to [] ys = refl
due-append to (x ∷ xs) ys = ap (λ (zs : List (List ℕ)). frame_due to x ++ zs) (due-append to xs ys) ∙ sym (append_assoc (frame_due to x) (frames_due to xs) (frames_due to ys))

-- nothing was due, and something is asked
more-asked : (to : Side) (gone all : List (List ℕ)) (os dues : List Due) → dues ≡ [] → gone ++ frames_due to dues ≡ all
    → gone ++ frames_due to (os ++ dues) ≡ all ++ frames_due to os
more-asked to gone all os dues e g =
    let whole : gone ≡ all = sym (append-nil gone) ∙ subst (λ (ds : List Due). gone ++ frames_due to ds ≡ all) e g in
    subst (λ (ds : List Due). gone ++ frames_due to (os ++ ds) ≡ all ++ frames_due to os) (sym e)
    (rw (append-nil os, whole) refl)

-- what was due goes, and nothing is asked
one-less : (to : Side) (gone all : List (List ℕ)) (due : Due) (rest dues : List Due) (x : List (List ℕ)) → dues ≡ due ∷ rest → frame_due to due ≡ x
    → gone ++ frames_due to dues ≡ all → (gone ++ x) ++ frames_due to rest ≡ all ++ []
one-less to gone all due rest dues x e f g =
    append_assoc gone x (frames_due to rest)
    ∙ ap (λ (y : List (List ℕ)). gone ++ (y ++ frames_due to rest)) (sym f)
    ∙ subst (λ (ds : List Due). gone ++ frames_due to ds ≡ all) e g
    ∙ sym (append-nil all)

-- the last that was due goes, and something is asked
last-then : (to : Side) (gone all : List (List ℕ)) (due : Due) (os dues : List Due) (x : List (List ℕ)) → dues ≡ due ∷ [] → frame_due to due ≡ x
    → gone ++ frames_due to dues ≡ all → (gone ++ x) ++ frames_due to (os ++ []) ≡ all ++ frames_due to os
last-then to gone all due os dues x e f g =
    let whole : gone ++ x ≡ all = ap (λ (y : List (List ℕ)). gone ++ y) (sym f) ∙ (ap (λ (y : List (List ℕ)). gone ++ y) (sym (append-nil (frame_due to due)))
    ∙ subst (λ (ds : List Due). gone ++ frames_due to ds ≡ all) e g) in
    rw (append-nil os, whole) refl

first-rest : (dues : List Due) (due : Due) → first_due dues ≡ Some due → dues ≡ due ∷ drop 1 dues
first-rest [] due e = absurd (let g : None ≡ Some due = e in cc)
first-rest (x ∷ dues) due e = ap (λ (y : Due). y ∷ dues) (some-same x due e)

empty-first : (dues : List Due) → first_due dues ≡ None → dues ≡ []
empty-first [] e = refl
empty-first (due ∷ dues) e = absurd (let g : Some due ≡ None = e in cc)

with-only : (b : Bool) (xs : List (List ℕ)) (x : List ℕ) → with_if b xs x ≡ xs ++ only b (x ∷ [])
with-only true xs x = refl
with-only false xs x = sym (append-nil xs)

-- a frame to the switch asks for more only where it is that of an edit, and then it alone was due
asks : (to : Side) (run : Run) (s : ℕ) (before : List Own) (frame : List ℕ) (lost : Bool) (gone all : List (List ℕ)) → AllFit run s before
    → first_due (owed run s before) ≡ Some (Frame Switch frame) → gone ++ frames_due to (owed run s before) ≡ all
    → (gone ++ only (same_side Switch to) (frame ∷ [])) ++ frames_due to (owes run s (owed run s before) before (Sends Switch frame lost) ++ drop 1 (owed run s before))
    ≡ all ++ frames_due to (owes run s (owed run s before) before (Sends Switch frame lost))
asks to run s (Acts (Step Switch x (Some change)) ∷ before) frame lost gone all fit first e =
    let quiet : owed run s before ≡ [] = empty-first (owed run s before) fit.0.2 in
    let dues = owed run s (Acts (Step Switch x (Some change)) ∷ before) in
    let one : dues ≡ Frame Switch x ∷ [] = ap (λ (ds : List Due). Frame Switch x ∷ ds) quiet in
    let same : Frame Switch x ≡ Frame Switch frame = some-same (Frame Switch x) (Frame Switch frame) first in
    let os = owes run s dues (Acts (Step Switch x (Some change)) ∷ before) (Sends Switch frame lost) in
    subst (λ (ds : List Due). (gone ++ only (same_side Switch to) (frame ∷ [])) ++ frames_due to (os ++ ds) ≡ all ++ frames_due to os) (sym quiet)
    (last-then to gone all (Frame Switch frame) os dues (only (same_side Switch to) (frame ∷ [])) (one ∙ ap (λ (d : Due). d ∷ []) same) refl e)
asks to run s before frame lost gone all fit first e =
    one-less to gone all (Frame Switch frame) (drop 1 (owed run s before)) (owed run s before) (only (same_side Switch to) (frame ∷ [])) (first-rest (owed run s before) (Frame Switch frame) first) refl e

one-none : (to : Side) (gone all : List (List ℕ)) (due : Due) (dues : List Due) → first_due dues ≡ Some due → frame_due to due ≡ []
    → gone ++ frames_due to dues ≡ all → gone ++ frames_due to (drop 1 dues) ≡ all ++ []
one-none to gone all due dues first none e =
    ap (λ (xs : List (List ℕ)). xs ++ frames_due to (drop 1 dues)) (sym (append-nil gone)) ∙ one-less to gone all due (drop 1 dues) dues [] (first-rest dues due first) none e

ends-less : (to : Side) (gone all : List (List ℕ)) (dues : List Due) → EndFits (first_due dues) → gone ++ frames_due to dues ≡ all
    → gone ++ frames_due to (drop 1 dues) ≡ all ++ []
ends-less to gone all [] fit e = e ∙ sym (append-nil all)
ends-less to gone all (Ending why ∷ rest) fit e = e ∙ sym (append-nil all)
ends-less to gone all (Frame side frame ∷ rest) fit e = absurd fit
ends-less to gone all (Tells line ∷ rest) fit e = absurd fit
ends-less to gone all (Probing job k ∷ rest) fit e = absurd fit
ends-less to gone all (Going serial ∷ rest) fit e = absurd fit

-- what was sent and what is due is what was asked
sent-asked : (to : Side) (run : Run) (s : ℕ) (seen : List Own) → AllFit run s seen → sent to seen ++ frames_due to (owed run s seen) ≡ asked to run s seen
sent-asked to run s [] fit = refl
sent-asked to run s (Sends Controller frame lost ∷ before) fit =
    let dues = owed run s before in
    ap (λ (xs : List (List ℕ)). xs ++ frames_due to (drop 1 dues)) (with-only (same_side Controller to) (sent to before) frame)
    ∙ one-less to (sent to before) (asked to run s before) (Frame Controller frame) (drop 1 dues) dues (only (same_side Controller to) (frame ∷ []))
    (first-rest dues (Frame Controller frame) fit.0) refl (sent-asked to run s before fit.1)
sent-asked to run s (Sends Switch frame lost ∷ before) fit =
    let os = owes run s (owed run s before) before (Sends Switch frame lost) in
    ap (λ (xs : List (List ℕ)). xs ++ frames_due to (os ++ drop 1 (owed run s before))) (with-only (same_side Switch to) (sent to before) frame)
    ∙ asks to run s before frame lost (sent to before) (asked to run s before) fit.1 fit.0 (sent-asked to run s before fit.1)
sent-asked to run s (Goes_out serial near frame ∷ before) fit =
    one-none to (sent to before) (asked to run s before) (Going serial) (owed run s before) fit.0 refl (sent-asked to run s before fit.1)
sent-asked to run s (Reports line ∷ before) fit =
    one-none to (sent to before) (asked to run s before) (Tells line) (owed run s before) fit.0 refl (sent-asked to run s before fit.1)
sent-asked to run s (Probes serial edit version x shows ∷ before) fit =
    one-none to (sent to before) (asked to run s before) (Probing fit.0.0 fit.0.1) (owed run s before) fit.0.2 refl (sent-asked to run s before fit.1)
sent-asked to run s (Ends ∷ before) fit =
    ends-less to (sent to before) (asked to run s before) (owed run s before) fit.0 (sent-asked to run s before fit.1)
sent-asked to run s (Carries lost ∷ before) fit = sent-asked to run s before fit.1 ∙ sym (append-nil (asked to run s before))
sent-asked to run s (Neighbour ∷ before) fit = sent-asked to run s before fit.1 ∙ sym (append-nil (asked to run s before))
sent-asked to run s (Acts act ∷ before) fit =
    more-asked to (sent to before) (asked to run s before) (on_act s before act) (owed run s before) (empty-first (owed run s before) fit.0.2) (sent-asked to run s before fit.1)
sent-asked to run s (o ∷ before) fit =
    more-asked to (sent to before) (asked to run s before) (owes run s (owed run s before) before o) (owed run s before) (empty-first (owed run s before) fit.0)
    (sent-asked to run s before fit.1)

-- to the switch ----------------------------------------------------------------

light-due : (b : Bool) (xs : List (List ℕ)) (frame : List ℕ) → with_if b xs frame ≡ xs ++ frames_due Switch (cond b (Frame Switch frame ∷ []) [])
light-due true xs frame = refl
light-due false xs frame = sym (append-nil xs)

for-switch-asked : (run : Run) (s : ℕ) (seen : List Own) → for_switch run s seen ≡ asked Switch run s seen
for-switch-asked run s [] = refl
for-switch-asked run s (From_controller frame ∷ before) =
    ap (λ (xs : List (List ℕ)). with_if (is_light frame) xs frame) (for-switch-asked run s before) ∙ light-due (is_light frame) (asked Switch run s before) frame
for-switch-asked run s (Acts (Step Switch frame change) ∷ before) = ap (λ (xs : List (List ℕ)). xs ++ frame ∷ []) (for-switch-asked run s before)
for-switch-asked run s (Acts (Step Controller error change) ∷ before) = for-switch-asked run s before ∙ sym (append-nil (asked Switch run s before))
for-switch-asked run s (o ∷ before) = ap (λ (xs : List (List ℕ)). xs ++ own_frames run s before o) (for-switch-asked run s before)

-- to the controller ------------------------------------------------------------

none-back : (s : ℕ) (dues : List Due) → AllOf s false dues → frames_due Controller dues ≡ []
none-back s [] a = refl
none-back s (Frame Controller frame ∷ dues) a = absurd (false≢true a.0)
none-back s (Frame Switch frame ∷ dues) a = none-back s dues a.1
none-back s (Tells line ∷ dues) a = none-back s dues a.1
none-back s (Ending why ∷ dues) a = none-back s dues a.1
none-back s (Probing job k ∷ dues) a = none-back s dues a.1
none-back s (Going serial ∷ dues) a = none-back s dues a.1

arming-back : (frames : List (List ℕ)) → frames_due Controller (frames_to Switch frames) ≡ []
arming-back [] = refl
arming-back (frame ∷ frames) = arming-back frames

arming-with : (run : Run) (tag : Option ℕ) → frames_due Controller (arming_of run tag) ≡ []
arming-with run None = refl
arming-with run (Some tag) = arming-back (arming_frames tag run.in_use)

ends-or-arms-back : (run : Run) (d : Option ℕ) (why : Option Cause) → frames_due Controller (ends_or_arms run d why) ≡ []
ends-or-arms-back run d (Some why) = refl
ends-or-arms-back run None None = refl
ends-or-arms-back run (Some d) None = arming-with run (tag_of d run.given)

armed-with-back : (s d : ℕ) (tag : Option ℕ) → frames_due Controller (armed_with s d tag) ≡ []
armed-with-back s d None = refl
armed-with-back s d (Some tag) = refl

armed-back : (run : Run) (s : ℕ) (d : Option ℕ) → frames_due Controller (armed_line run s d) ≡ []
armed-back run s None = refl
armed-back run s (Some d) = armed-with-back s d (tag_of d run.given)

told-back : (b : Bool) (s k : ℕ) (w : What) → frames_due Controller (cond b (fact s k w ∷ []) []) ≡ []
told-back true s k w = refl
told-back false s k w = refl

barrier-back : (run : Run) (s : ℕ) (before : List Own) (frame : List ℕ) (who : Option Asker)
    → frames_due Controller (on_barrier run s before frame who) ≡ only (is_none who) (frame ∷ [])
barrier-back run s before frame None = refl
barrier-back run s before frame (Some asker.Arming) = armed-back run s (datapath before)
barrier-back run s before frame (Some (asker.Own k)) = told-back (is_unsettled before k) s k what.Settled
barrier-back run s before frame (Some (asker.Controller edits)) = refl

error-back : (s : ℕ) (before : List Own) (frame : List ℕ) (k : Option ℕ)
    → frames_due Controller (on_error s before frame k) ≡ only (is_some k || not (is_own_error frame)) (frame ∷ [])
error-back s before frame (Some k) = refl
error-back s before frame None =
    elim (is_own_error frame) as (λ b. frames_due Controller (cond b (cond (is_armed before) [] (Ending cause.NotArmed ∷ [])) (Frame Controller frame ∷ [])) ≡ only (not b) (frame ∷ [])) [
      | true ↦ elim (is_armed before) as (λ b. frames_due Controller (cond b [] (Ending cause.NotArmed ∷ [])) ≡ []) [
        | true ↦ refl
        | false ↦ refl
      ]
      | false ↦ refl
    ]

return-back : (b : Bool) (frame : List ℕ) → frames_due Controller (cond b [] (Frame Controller frame ∷ [])) ≡ only (not b) (frame ∷ [])
return-back true frame = refl
return-back false frame = refl

-- the first fate that applies says whether a frame goes on
fates-back : (a b c d e f : Bool) (frame : List ℕ) (xs ys zs ws : List Due) → frames_due Controller xs ≡ [] → frames_due Controller ys ≡ only d (frame ∷ [])
    → frames_due Controller zs ≡ only e (frame ∷ []) → frames_due Controller ws ≡ only f (frame ∷ [])
    → frames_due Controller (cond a xs (cond b ys (cond c zs ws))) ≡ only (cond a false (cond b d (cond c e f))) (frame ∷ [])
fates-back true b c d e f frame xs ys zs ws x y z w = x
fates-back false true c d e f frame xs ys zs ws x y z w = y
fates-back false false true d e f frame xs ys zs ws x y z w = z
fates-back false false false d e f frame xs ys zs ws x y z w = w

switch-back : (run : Run) (s : ℕ) (taken : List ℕ) (before : List Own) (frame : List ℕ)
    → frames_due Controller (on_switch run s taken before frame) ≡ only (goes_on run before frame) (frame ∷ [])
unfolding on_switch
switch-back run s taken before frame =
    fates-back (is_own_reply before frame) (is_barrier_reply frame) (is_error frame) (is_none (answered_by before frame))
    (is_some (rejected_by frame (passed before)) || not (is_own_error frame)) (not (is_return run frame)) frame _ _ _ _
    (ends-or-arms-back run (datapath_of frame) (refused_reply run taken (datapath_of frame)))
    (barrier-back run s before frame (answered_by before frame)) (error-back s before frame (rejected_by frame (passed before))) (return-back (is_return run frame) frame)

request-back : (b : Bool) (dues : List Due) → frames_due Controller (cond b (dues ++ Frame Switch features_request ∷ []) dues) ≡ frames_due Controller dues
request-back true dues = due-append Controller dues (Frame Switch features_request ∷ []) ∙ append-nil (frames_due Controller dues)
request-back false dues = refl

for-controller-asked : (run : Run) (s : ℕ) (seen : List Own) → for_controller run seen ≡ asked Controller run s seen
for-controller-asked run s [] = refl
for-controller-asked run s (From_switch frame others ∷ before) =
    with-only (goes_on run before frame) (for_controller run before) frame
    ∙ ap (λ (xs : List (List ℕ)). xs ++ only (goes_on run before frame) (frame ∷ [])) (for-controller-asked run s before)
    ∙ ap (λ (xs : List (List ℕ)). asked Controller run s before ++ xs)
    (sym (request-back ((Datapaths.from_switch before == 0) && not (ends_in (on_switch run s others before frame))) (on_switch run s others before frame)
    ∙ switch-back run s others before frame))
for-controller-asked run s (Acts (Reply frame) ∷ before) = ap (λ (xs : List (List ℕ)). xs ++ frame ∷ []) (for-controller-asked run s before)
for-controller-asked run s (Acts (Step Controller error change) ∷ before) = ap (λ (xs : List (List ℕ)). xs ++ error ∷ []) (for-controller-asked run s before)
for-controller-asked run s (Acts (Step Switch frame change) ∷ before) = for-controller-asked run s before ∙ sym (append-nil (asked Controller run s before))
for-controller-asked run s (Acts (Closing edit close) ∷ before) = for-controller-asked run s before ∙ sym (append-nil (asked Controller run s before))
for-controller-asked run s (Acts (Plan frame) ∷ before) = for-controller-asked run s before ∙ sym (append-nil (asked Controller run s before))
for-controller-asked run s (o ∷ before) =
    for-controller-asked run s before ∙ sym (append-nil (asked Controller run s before))
    ∙ ap (λ (xs : List (List ℕ)). asked Controller run s before ++ xs) (sym (none-back s (owes run s (owed run s before) before o) (all-owes run s (owed run s before) before o)))

pub to-controller : (run : Run) (s : ℕ) (seen : List Own) → AllFit run s seen → sent Controller seen ++ frames_due Controller (owed run s seen) ≡ for_controller run seen
to-controller run s seen fit = sent-asked Controller run s seen fit ∙ sym (for-controller-asked run s seen)

pub to-switch : (run : Run) (s : ℕ) (seen : List Own) → AllFit run s seen → sent Switch seen ++ frames_due Switch (owed run s seen) ≡ for_switch run s seen
to-switch run s seen fit = sent-asked Switch run s seen fit ∙ sym (for-switch-asked run s seen)

-- replies ----------------------------------------------------------------------

kept-more : (b : Bool) (askers : List Asker) (frame : List ℕ) (gone : List (List ℕ)) (keeps : List Kept) (all : List (List ℕ)) → gone ++ map (λ r. r.frame) keeps ≡ all
    → gone ++ map (λ r. r.frame) (kept_if b askers frame keeps) ≡ with_if (b && is_controllers askers) all frame
kept-more true [] frame gone keeps all e = e
kept-more true (asker.Arming ∷ later) frame gone keeps all e = e
kept-more true (asker.Own k ∷ later) frame gone keeps all e = e
kept-more true (asker.Controller edits ∷ later) frame gone keeps all e =
    ap (λ (xs : List (List ℕ)). gone ++ xs) (map-append (λ r. r.frame) keeps (record { edits = edits; frame = frame } ∷ []))
    ∙ sym (append_assoc gone (map (λ r. r.frame) keeps) (frame ∷ []))
    ∙ ap (λ (xs : List (List ℕ)). xs ++ frame ∷ []) e
kept-more false askers frame gone keeps all e = e

kept-less : (frame : List ℕ) (gone : List (List ℕ)) (keeps : List Kept) (reply : Kept) (later : List Kept) (all : List (List ℕ)) → keeps ≡ reply ∷ later → frame ≡ reply.frame
    → gone ++ map (λ r. r.frame) keeps ≡ all → (gone ++ frame ∷ []) ++ map (λ r. r.frame) (drop 1 keeps) ≡ all
kept-less frame gone keeps reply later all e f g =
    ap (λ (ks : List Kept). (gone ++ frame ∷ []) ++ map (λ r. r.frame) (drop 1 ks)) e
    ∙ append_assoc gone (frame ∷ []) (map (λ r. r.frame) later)
    ∙ ap (λ (x : List ℕ). gone ++ (x ∷ map (λ r. r.frame) later)) f
    ∙ ap (λ (ks : List Kept). gone ++ map (λ r. r.frame) ks) (sym e)
    ∙ g

pub replies-kept : (run : Run) (s : ℕ) (seen : List Own) → AllFit run s seen → let_go seen ++ map (λ r. r.frame) (kept seen) ≡ replies seen
replies-kept run s [] fit = refl
replies-kept run s (From_switch frame others ∷ before) fit =
    kept-more (is_barrier_reply frame) (unanswered before) frame (let_go before) (kept before) (replies before) (replies-kept run s before fit.1)
replies-kept run s (Acts (Reply frame) ∷ before) fit =
    let due = reply-due (is_armed before) fit.0.0 (expected (catching run before) before) (unsettled before) (postponed before) (kept before) (waiting before) (under_way run before) frame fit.0.1 in
    let r = released-first (oldest (unsettled before)) (kept before) frame due in
    kept-less frame (let_go before) (kept before) r.0 r.1 (replies before) r.2 r.3 (replies-kept run s before fit.1)
replies-kept run s (o ∷ before) fit = replies-kept run s before fit.1

-- the controller's frames ------------------------------------------------------

abbrev is_plan : Option Act → Bool
is_plan (Some (Plan frame)) = true
is_plan o = false

abbrev is_step : Option Act → Bool
is_step (Some (Step to frame change)) = true
is_step o = false

abbrev plan_of : Option Act → List ℕ
plan_of (Some (Plan frame)) = frame
plan_of o = []

closing-steps : (test : Option Act → Bool) → test None ≡ false → ((k : ℕ) (close : Close) → test (Some (Closing k close)) ≡ false)
    → (o : Option Postponed) → test (option_map (λ p. Closing p.edit p.close) o) ≡ false
closing-steps test n c None = n
closing-steps test n c (Some p) = c p.edit p.close

reply-steps : (test : Option Act → Bool) → test None ≡ false → ((frame : List ℕ) → test (Some (Reply frame)) ≡ false)
    → (o : Option (List ℕ)) → test (option_map Reply o) ≡ false
reply-steps test n c None = n
reply-steps test n c (Some frame) = c frame

third : (test : Option Act → Bool) (a b c : Option Act) (act : Act) → test a ≡ false → test b ≡ false → test (Some act) ≡ true → or_else a (or_else b c) ≡ Some act → c ≡ Some act
third test (Some x) b c act n m y e = absurd (false≢true (sym n ∙ (ap test e ∙ y)))
third test None (Some x) c act n m y e = absurd (false≢true (sym m ∙ (ap test e ∙ y)))
third test None None c act n m y e = e

step-is-due : (test : Option Act → Bool) (armed : Bool) (v : Viewing) (t : List Rule) (edits : List Passed) (closings : List Postponed) (keeps : List Kept) (waits : List (List ℕ)) (parts : List Part) (act : Act)
    → test None ≡ false → ((k : ℕ) (close : Close) → test (Some (Closing k close)) ≡ false) → ((frame : List ℕ) → test (Some (Reply frame)) ≡ false) → test (Some act) ≡ true
    → act_due armed v t edits closings keeps waits parts ≡ Some act → due_step v t edits waits parts ≡ Some act
step-is-due test false v t edits closings keeps waits parts act n c r y e = absurd (let g : None ≡ Some act = e in cc)
step-is-due test true v t edits closings keeps waits parts act n c r y e =
    third test (due_closing edits closings) (due_reply edits keeps) (due_step v t edits waits parts) act
    (closing-steps test n c (find (λ p. not (list_any (λ q. q.number == p.edit) edits)) closings)) (reply-steps test n r (released (oldest edits) keeps)) y e

if-some : (b : Bool) (act other : Act) → cond b (Some act) None ≡ Some other → act ≡ other
if-some true act other e = some-same act other e
if-some false act other e = absurd (let g : None ≡ Some other = e in cc)

planned-first : (b : Bool) (x frame : List ℕ) → planned_if b x ≡ Some (Plan frame) → x ≡ frame
planned-first true x frame e = ap plan_of e
planned-first false x frame e = absurd (let g : None ≡ Some (Plan frame) = e in cc)

change-no-plan : (r : Option Rule) (came : List ℕ) (m : FlowMod) (x : Edit) (first : Bool) (frame : List ℕ) → change_of r came m x first ≡ Plan frame → ⊥
change-no-plan None came m x first frame e = let g : change_of None came m x first ≡ Plan frame = e in cc
change-no-plan (Some r) came m x first frame e = let g : change_of (Some r) came m x first ≡ Plan frame = e in cc

step-no-plan : (v : Viewing) (t : List Rule) (part : Part) (frame : List ℕ) → step_of v t part ≡ Plan frame → ⊥
step-no-plan v t (Whole x) frame e = let g : Step Switch x None ≡ Plan frame = e in cc
step-no-plan v t (Refused error) frame e = let g : Step Controller error None ≡ Plan frame = e in cc
step-no-plan v t (Changed came m x first) frame e = change-no-plan (stand_in_for v t x) came m x first frame e

-- a frame is planned where nothing is left of another, and it is the first that waits
plan-due : (v : Viewing) (t : List Rule) (edits : List Passed) (waits : List (List ℕ)) (parts : List Part) (frame : List ℕ) → due_step v t edits waits parts ≡ Some (Plan frame)
    → (later : List (List ℕ)) × (waits ≡ frame ∷ later) × (parts ≡ [])
plan-due v t edits [] [] frame e = absurd (let g : None ≡ Some (Plan frame) = e in cc)
plan-due v t edits (x ∷ later) [] frame e = (later, ap (λ (y : List ℕ). y ∷ later) (planned-first (may_if (awaited x) edits) x frame e), refl)
plan-due v t edits waits (part ∷ parts) frame e = absurd (step-no-plan v t part frame (if-some (may_if (awaited_by part) edits) (step_of v t part) (Plan frame) e))

planned-no-step : (b : Bool) (x : List ℕ) (to : Side) (frame : List ℕ) (change : Option Change) → planned_if b x ≡ Some (Step to frame change) → ⊥
planned-no-step true x to frame change e = let g : Some (Plan x) ≡ Some (Step to frame change) = e in cc
planned-no-step false x to frame change e = let g : None ≡ Some (Step to frame change) = e in cc

-- a step lets out the first of what is left
part-due : (v : Viewing) (t : List Rule) (edits : List Passed) (waits : List (List ℕ)) (parts : List Part) (to : Side) (frame : List ℕ) (change : Option Change)
    → due_step v t edits waits parts ≡ Some (Step to frame change) → (part : Part) × (rest : List Part) × (parts ≡ part ∷ rest) × (step_of v t part ≡ Step to frame change)
part-due v t edits [] [] to frame change e = absurd (let g : None ≡ Some (Step to frame change) = e in cc)
part-due v t edits (x ∷ later) [] to frame change e = absurd (planned-no-step (may_if (awaited x) edits) x to frame change e)
part-due v t edits waits (part ∷ parts) to frame change e = (part, parts, refl, if-some (may_if (awaited_by part) edits) (step_of v t part) (Step to frame change) e)

lets-out : (v : Viewing) (t : List Rule) (part : Part) (act : Act) → step_of v t part ≡ act → LetsOut part act
lets-out v t (Whole frame) act e = sym e
lets-out v t (Refused error) act e = sym e
lets-out v t (Changed frame m x first) act e = (stand_in_for v t x, sym e)

abbrev planning : Run → List Own → Viewing → Option Act
planning run before v = due_step v (expected (catching run before) before) (unsettled before) (waiting before) (under_way run before)

plan-comes : (run : Run) (before : List Own) (v : Viewing) (frame : List ℕ) → due_act run v before ≡ Some (Plan frame)
    → (later : List (List ℕ)) × (waiting before ≡ frame ∷ later) × (under_way run before ≡ [])
plan-comes run before v frame e =
    plan-due v (expected (catching run before) before) (unsettled before) (waiting before) (under_way run before) frame
    (step-is-due is_plan (is_armed before) v (expected (catching run before) before) (unsettled before) (postponed before) (kept before) (waiting before) (under_way run before) (Plan frame)
    refl (λ k close. refl) (λ x. refl) refl e)

part-comes : (run : Run) (before : List Own) (v : Viewing) (to : Side) (frame : List ℕ) (change : Option Change) → due_act run v before ≡ Some (Step to frame change)
    → (part : Part) × (rest : List Part) × (under_way run before ≡ part ∷ rest) × (step_of v (expected (catching run before) before) part ≡ Step to frame change)
part-comes run before v to frame change e =
    part-due v (expected (catching run before) before) (unsettled before) (waiting before) (under_way run before) to frame change
    (step-is-due is_step (is_armed before) v (expected (catching run before) before) (unsettled before) (postponed before) (kept before) (waiting before) (under_way run before) (Step to frame change)
    refl (λ k close. refl) (λ x. refl) refl e)

wait-more : (b : Bool) (gone waits all : List (List ℕ)) (frame : List ℕ) → gone ++ waits ≡ all → gone ++ with_if b waits frame ≡ with_if b all frame
wait-more true gone waits all frame e = sym (append_assoc gone waits (frame ∷ [])) ∙ ap (λ (xs : List (List ℕ)). xs ++ frame ∷ []) e
wait-more false gone waits all frame e = e

wait-less : (gone waits later all : List (List ℕ)) (frame : List ℕ) → waits ≡ frame ∷ later → gone ++ waits ≡ all → (gone ++ frame ∷ []) ++ drop 1 waits ≡ all
wait-less gone waits later all frame e g =
    ap (λ (xs : List (List ℕ)). (gone ++ frame ∷ []) ++ drop 1 xs) e ∙ append_assoc gone (frame ∷ []) later ∙ ap (λ (xs : List (List ℕ)). gone ++ xs) (sym e) ∙ g

pub all-planned : (run : Run) (s : ℕ) (seen : List Own) → AllFit run s seen → planned seen ++ waiting seen ≡ ordered seen
all-planned run s [] fit = refl
all-planned run s (From_controller frame ∷ before) fit =
    wait-more (not (is_light frame)) (planned before) (waiting before) (ordered before) frame (all-planned run s before fit.1)
all-planned run s (Acts (Plan frame) ∷ before) fit =
    let p = plan-comes run before fit.0.0 frame fit.0.1 in
    wait-less (planned before) (waiting before) p.0 (ordered before) frame p.1 (all-planned run s before fit.1)
all-planned run s (o ∷ before) fit = all-planned run s before fit.1

-- fates ------------------------------------------------------------------------

let-more : (parts : List Part) (acts : List Act) (more : List Part) → LetOut parts acts [] → LetOut (parts ++ more) acts more
let-more parts [] more l = ap (λ (xs : List Part). xs ++ more) l
let-more [] (act ∷ acts) more l = absurd l
let-more (part ∷ parts) (act ∷ acts) more l = (l.0, let-more parts acts more l.1)

let-one : (parts : List Part) (acts : List Act) (part : Part) (rest : List Part) (act : Act) → LetsOut part act → LetOut parts acts (part ∷ rest) → LetOut parts (acts ++ act ∷ []) rest
let-one parts [] part rest act x l = subst (λ (ps : List Part). LetOut ps (act ∷ []) rest) (sym l) (x, refl)
let-one [] (other ∷ acts) part rest act x l = absurd l
let-one (p ∷ parts) (other ∷ acts) part rest act x l = (l.0, let-one parts acts part rest act x l.1)

pub all-let-out : (run : Run) (s : ℕ) (seen : List Own) → AllFit run s seen → LetOut (fates run seen) (steps seen) (under_way run seen)
all-let-out run s [] fit = refl
all-let-out run s (Acts (Plan frame) ∷ before) fit =
    let p = plan-comes run before fit.0.0 frame fit.0.1 in
    let-more (fates run before) (steps before) (fate (catching run before) (entries before) (unsettled before) frame)
    (subst (λ (ps : List Part). LetOut (fates run before) (steps before) ps) p.2 (all-let-out run s before fit.1))
all-let-out run s (Acts (Step to frame change) ∷ before) fit =
    let p = part-comes run before fit.0.0 to frame change fit.0.1 in
    let act = Step to frame change in
    subst (λ (ps : List Part). LetOut (fates run before) (steps before ++ act ∷ []) (drop 1 ps)) (sym p.2)
    (let-one (fates run before) (steps before) p.0 p.1 act (lets-out fit.0.0 (expected (catching run before) before) p.0 act p.3)
    (subst (λ (ps : List Part). LetOut (fates run before) (steps before) ps) p.2 (all-let-out run s before fit.1)))
all-let-out run s (o ∷ before) fit = all-let-out run s before fit.1
