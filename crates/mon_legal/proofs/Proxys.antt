-- What the proxy sends of its own is its FEATURES_REQUEST, its barriers, arming frames and closings, and nothing else.
use Rattle.std.proofs.Common.{◌≡◌, ℕ, ◌+◌, Bool, true, false, cond, not, ◌&&◌, List, [], ◌∷◌, ◌++◌, map, Option, Some, None, refl, sym, inl, inr}
use Rattle.std.specs.Prelude.{◌==◌}
use Rattle.mon_list.specs.Has.{Has}
use Rattle.std.specs.List.{AllByRecursion}
use Rattle.std.proofs.lemmas.Bool.{false≢true}
use Rattle.mon_world.specs.declared.event.Kind.{Kind}
use Rattle.mon_legal.specs.Runs.{Run}
use Rattle.mon_legal.specs.Owns.{Own}
use Rattle.mon_legal.specs.Directly.{is_own_reply, is_return, armed_with, armed_line, is_closing, is_over, is_current, Due, arming_of, confirmed_with, ends_or_arms, fact, frames_to, on_barrier, on_edit, on_error, on_judged, on_return, on_switch, refused_reply, rule_of_watch, told}
use Rattle.mon_legal.specs.Sides.{frames_due, IsProxys, is_controllers_own, own_frames, frame_due}
use Rattle.mon_barriers.specs.declared.barriers.Asker.TheVariants as asker
use Rattle.mon_report.specs.declared.line.What.TheVariants as what
use Rattle.mon_world.specs.declared.event.Kind.TheVariants as kind
use Rattle.mon_report.specs.declared.line.WatchWhat.TheVariants as watch_what
use Rattle.mon_report.specs.declared.line.WatchWhat.{WatchWhat}
use Rattle.mon_barriers.specs.declared.barriers.Asker.{Asker}
use Rattle.mon_legal.specs.Edits.{changes_nothing, expected, find_passed, is_unsettled, passed, rejected_by, unsettled}
use Rattle.mon_legal.specs.Owns.Own.{Acts, Begins, From_controller, From_switch, Judged, Returns, Sends, Ticks}
use Rattle.mon_legal.specs.Datapaths.{catching, datapath}
use Rattle.mon_world.specs.declared.event.Side.TheVariants.{Switch}
use Rattle.mon_legal.specs.Barriers.{answered_by, count, edit_out, is_armed, is_edit}
use Rattle.mon_table.specs.declared.edit.Edit.{Edit}
use Rattle.mon_topo.specs.Tags.{tag_of}
use Rattle.mon_legal.specs.Messages.{arming_frames, features_request, is_barrier_reply, is_error, is_own_error, own_barrier}
use Rattle.mon_legal.specs.Probes.{again, confirmed_by, live, silent}
use Rattle.mon_legal.specs.Sessions.{version}
use Rattle.mon_legal.specs.Directly.Due.{Frame, Going}
use Rattle.mon_legal.specs.Ties.{tie}
use Rattle.mon_legal.specs.Owns.Act.{Closing, Plan, Reply, Step}
use Rattle.mon_legal.specs.Watching.{missing, seen_by, watch, watch_again}
use Rattle.of_msgs.specs.Layout.{datapath_of}
use Rattle.mon_report.specs.declared.line.Cause.{Cause}
use Rattle.mon_table.specs.declared.rule.Rule.{Rule}

abbrev Proxys : Run → Own → List Due → Type 0
Proxys run o dues = AllByRecursion (IsProxys run o) (frames_due Switch dues)

with-append : (P : List ℕ → Type 0) (xs ys : List (List ℕ)) → AllByRecursion P xs → AllByRecursion P ys → AllByRecursion P (xs ++ ys)
with-append P [] ys a b = b
with-append P (x ∷ xs) ys a b = (a.0, with-append P xs ys a.1 b)

all-split : (P : List ℕ → Type 0) (xs ys : List (List ℕ)) → AllByRecursion P (xs ++ ys) → AllByRecursion P xs × AllByRecursion P ys
all-split P [] ys a = (tt, a)
all-split P (x ∷ xs) ys a = let later = all-split P xs ys a.1 in ((a.0, later.0), later.1)

px-append : (run : Run) (o : Own) (xs ys : List Due) → Proxys run o xs → Proxys run o ys → Proxys run o (xs ++ ys)
px-append run o [] ys a b = b
px-append run o (x ∷ xs) ys a b =
    let front = all-split (IsProxys run o) (frame_due Switch x) (frames_due Switch xs) a in
    with-append (IsProxys run o) (frame_due Switch x) (frames_due Switch (xs ++ ys)) front.0 (px-append run o xs ys front.1 b)

px-cond : (run : Run) (o : Own) (b : Bool) (xs ys : List Due) → Proxys run o xs → Proxys run o ys → Proxys run o (cond b xs ys)
px-cond run o true xs ys x y = x
px-cond run o false xs ys x y = y

px-told : (run : Run) (o : Own) (s : ℕ) (serial : Option ℕ) (w : WatchWhat) (r : Option Rule) → Proxys run o (told s serial w r)
px-told run o s serial w None = tt
px-told run o s serial w (Some r) = tt

px-going : (run : Run) (o : Own) (serials : List ℕ) → Proxys run o (map Going serials)
px-going run o [] = tt
px-going run o (n ∷ serials) = px-going run o serials

px-silent : (run : Run) (o : Own) (s : ℕ) (edits : List ℕ) → Proxys run o (map (λ k. fact s k what.Silent) edits)
px-silent run o s [] = tt
px-silent run o s (k ∷ edits) = px-silent run o s edits

-- the arming frames are those of a tag
px-frames : (run : Run) (o : Own) (frames : List (List ℕ)) → AllByRecursion (IsProxys run o) frames → Proxys run o (frames_to Switch frames)
px-frames run o [] a = tt
px-frames run o (frame ∷ frames) a = (a.0, px-frames run o frames a.1)

armed-by : (run : Run) (o : Own) (tag : ℕ) (some : List (List ℕ)) → ((x : List ℕ) → Has some x → Has (arming_frames tag run.in_use) x) → AllByRecursion (IsProxys run o) some
armed-by run o tag [] k = tt
armed-by run o tag (x ∷ some) k = (inr (inr (inl (tag, k x (inl refl)))), armed-by run o tag some (λ y h. k y (inr h)))

px-arming : (run : Run) (o : Own) (tag : Option ℕ) → Proxys run o (arming_of run tag)
px-arming run o None = tt
px-arming run o (Some tag) =
    px-frames run o (arming_frames tag run.in_use) (armed-by run o tag (arming_frames tag run.in_use) (λ x h. h))

px-ends-or-arms : (run : Run) (o : Own) (d : Option ℕ) (why : Option Cause) → Proxys run o (ends_or_arms run d why)
px-ends-or-arms run o d (Some why) = tt
px-ends-or-arms run o None None = tt
px-ends-or-arms run o (Some d) None = px-arming run o (tag_of d run.given)

px-armed-with : (run : Run) (o : Own) (s d : ℕ) (tag : Option ℕ) → Proxys run o (armed_with s d tag)
px-armed-with run o s d None = tt
px-armed-with run o s d (Some tag) = tt

px-armed : (run : Run) (o : Own) (s : ℕ) (d : Option ℕ) → Proxys run o (armed_line run s d)
px-armed run o s None = tt
px-armed run o s (Some d) = px-armed-with run o s d (tag_of d run.given)

px-barrier : (run : Run) (o : Own) (s : ℕ) (before : List Own) (frame : List ℕ) (who : Option Asker) → Proxys run o (on_barrier run s before frame who)
px-barrier run o s before frame None = tt
px-barrier run o s before frame (Some asker.Arming) = px-armed run o s (datapath before)
px-barrier run o s before frame (Some (asker.Own k)) = px-cond run o (is_unsettled before k) _ _ tt tt
px-barrier run o s before frame (Some (asker.Controller edits)) = tt

px-error : (run : Run) (o : Own) (s : ℕ) (before : List Own) (frame : List ℕ) (k : Option ℕ) → Proxys run o (on_error s before frame k)
px-error run o s before frame (Some k) = tt
px-error run o s before frame None = px-cond run o (is_own_error frame) _ _ (px-cond run o (is_armed before) _ _ tt tt) tt

px-switch : (run : Run) (o : Own) (s : ℕ) (taken : List ℕ) (before : List Own) (frame : List ℕ) → Proxys run o (on_switch run s taken before frame)
unfolding on_switch
px-switch run o s taken before frame =
    px-cond run o (is_own_reply before frame) _ _ (px-ends-or-arms run o (datapath_of frame) (refused_reply run taken (datapath_of frame)))
    (px-cond run o (is_barrier_reply frame) _ _ (px-barrier run o s before frame (answered_by before frame))
    (px-cond run o (is_error frame) _ _ (px-error run o s before frame (rejected_by frame (passed before)))
    (px-cond run o (is_return run frame) _ _ tt tt)))

own-barrier : (run : Run) (o : Own) → IsProxys run o own_barrier
own-barrier run o = inr (inl refl)

px-edit : (run : Run) (o : Own) (s k : ℕ) (t : List Rule) (x : Option Edit) → Proxys run o (on_edit s k t x)
px-edit run o s k t None = tt
px-edit run o s k t (Some x) = px-cond run o (changes_nothing x) _ _ tt (px-cond run o (tie t x) _ _ (own-barrier run o, tt) tt)

px-judged : (run : Run) (o : Own) (s : ℕ) (before : List Own) (job k : ℕ) (kind : Kind) → Proxys run o (on_judged run s before job k kind)
px-judged run o s before job k kind.Probe = tt
px-judged run o s before job k kind.Indistinguishable =
    px-cond run o (k == 0) _ _ (px-told run o s None watch_what.Unwatchable (rule_of_watch (watch run before))) (own-barrier run o, tt)
px-judged run o s before job k kind.Skipped = tt

px-confirmed : (run : Run) (o : Own) (b : Bool) → Proxys run o (confirmed_with b)
px-confirmed run o true = (own-barrier run o, tt)
px-confirmed run o false = tt

px-return : (run : Run) (o : Own) (s : ℕ) (before : List Own) (serial : ℕ) (k : Option ℕ) → Proxys run o (on_return s before serial k)
px-return run o s before serial None = tt
px-return run o s before serial (Some k) = px-confirmed run o (is_over (find_passed k before))

pub own-are-proxys : (run : Run) (s : ℕ) (before : List Own) (o : Own) → is_controllers_own o ≡ false → AllByRecursion (IsProxys run o) (own_frames run s before o)
own-are-proxys run s before (Begins None) n = tt
own-are-proxys run s before (From_controller frame) n = absurd (false≢true (sym n))
own-are-proxys run s before (From_switch frame others) n =
    let o = From_switch frame others in
    let dues = on_switch run s others before frame in
    px-cond run o _ (dues ++ Frame Switch features_request ∷ []) dues (px-append run o dues (Frame Switch features_request ∷ []) (px-switch run o s others before frame) (inl refl, tt))
    (px-switch run o s others before frame)
own-are-proxys run s before (Ticks version) n =
    let o = Ticks version in
    px-append run o (map Going (again run version (unsettled before) (live run before) ++ watch_again run version (watch run before))) _
    (px-going run o (again run version (unsettled before) (live run before) ++ watch_again run version (watch run before)))
    (px-append run o (map (λ k. fact s k what.Silent) (silent run (unsettled before))) _ (px-silent run o s (silent run (unsettled before)))
    (px-told run o s None watch_what.Missing (missing run version (watch run before))))
own-are-proxys run s before (Returns serial seen) n =
    let o = Returns serial seen in
    px-append run o (on_return s before serial (confirmed_by serial seen before)) _ (px-return run o s before serial (confirmed_by serial seen before))
    (px-told run o s (Some serial) watch_what.Seen (seen_by serial seen (watch run before)))
own-are-proxys run s before (Judged job k kind fresh) n =
    px-cond run (Judged job k kind fresh) (is_current run before job k fresh) _ _ (px-judged run (Judged job k kind fresh) s before job k kind) tt
own-are-proxys run s before (Acts (Closing k close)) n = (inr (inr (inr refl)), (own-barrier run (Acts (Closing k close)), tt))
own-are-proxys run s before (Acts (Reply frame)) n = tt
own-are-proxys run s before (Acts (Plan frame)) n = tt
own-are-proxys run s before (Acts (Step to frame change)) n = absurd (false≢true (sym n))
own-are-proxys run s before (Sends Switch frame lost) n =
    px-cond run (Sends Switch frame lost) (is_edit before && not (is_closing before)) _ _
    (px-edit run (Sends Switch frame lost) s (count before + 1) (expected (catching run before) (Sends Switch frame lost ∷ before)) (edit_out before)) tt
own-are-proxys run s before o n = tt
