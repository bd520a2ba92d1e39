-- The own FEATURES_REPLY, and the answers to barriers.
use Rattle.std.specs.Prelude.{◌≡◌, ℕ, Bool, true, false, ◌==◌, ◌||◌, List, [], ◌∷◌, Option, Some, None, refl}
use Rattle.std.specs.List.{list_any}
use Rattle.std.proofs.Common.{ap, sym, ◌∙◌, subst}
use Rattle.of_frame.specs.Header.{kind_of}
use Rattle.of_msgs.specs.Layout.{datapath_of}
use Rattle.mon_topo.specs.Tags.{tag_of}
use Rattle.mon_barriers.specs.declared.barriers.Asker.{Asker}
use Rattle.mon_barriers.specs.declared.barriers.Asker.TheVariants as asker
use Rattle.mon_barriers.specs.declared.barriers.Asked.TheVariants as asked
use Rattle.mon_barriers.specs.Barriers.{asked_of}
use Rattle.mon_report.specs.declared.line.Line.TheVariants as line
use Rattle.mon_report.specs.declared.line.Cause.TheVariants as cause
use Rattle.mon_world.specs.declared.event.Side.{Side}
use Rattle.mon_world.specs.declared.event.Side.TheVariants.{Controller, Switch}
use Rattle.mon_legal.specs.Runs.{Run}
use Rattle.mon_legal.specs.Owns.{Own}
use Rattle.mon_legal.specs.Owns.Own.{From_switch, Reports}
use Rattle.mon_legal.specs.Messages.{is_barrier_reply, arming_frames}
use Rattle.mon_legal.specs.Barriers.{first_asker}
use Rattle.mon_legal.specs.Edits.{is_number}
use Rattle.mon_legal.specs.Directly.{Due, frames_to, arming_of, ends_in, armed_line}
use Rattle.mon_legal.specs.Directly.Due.{Frame, Tells, Ending}
use Rattle.mon_session.specs.Now.{Now, step, is_reply, answered}
use Rattle.mon_session.specs.Walks.{Known, walks, takes}
use Rattle.mon_session.specs.Entries.{with_now, settles}
use Rattle.mon_session.specs.Entering.{knows, answered_by}
use Rattle.mon_session.specs.Dues.{met, reply_dues, barrier_dues, settled_dues}
use Rattle.mon_session.proofs.Framed.{as_reply, as_answer}

-- an entry, and what it makes due
pub walk_from : (run : Run) (k l : Known) (o : Own) (n : Now) (dues other : List Due) → step run k.now o ≡ n → other ≡ dues
    → l ≡ walks run (with_now k n) (met dues) → l ≡ walks run k (o ∷ met other)
walk_from run k l o n dues other e d w =
    w ∙ (ap (λ (m : Now). walks run (with_now k m) (met dues)) (sym e) ∙ ap (λ (ds : List Due). walks run k (o ∷ met ds)) (sym d))

-- frames are no end
pub frames_calm : (to : Side) (frames : List (List ℕ)) → ends_in (frames_to to frames) ≡ false
frames_calm to [] = refl
frames_calm to (frame ∷ frames) = frames_calm to frames

-- the three refusals, in order
pub no_features : (run : Run) (taken frame : List ℕ) → datapath_of frame ≡ None → reply_dues run taken frame ≡ Ending cause.Features ∷ []
no_features run taken frame e = rw e refl

pub unknown_switch : (run : Run) (taken frame : List ℕ) (d : ℕ) → datapath_of frame ≡ Some d → tag_of d run.given ≡ None
    → reply_dues run taken frame ≡ Ending cause.UnknownSwitch ∷ []
unknown_switch run taken frame d e t = rw e (rw t refl)

pub same_switch : (run : Run) (taken frame : List ℕ) (d tag : ℕ) → datapath_of frame ≡ Some d → tag_of d run.given ≡ Some tag
    → list_any (λ other. other == d) taken ≡ true → reply_dues run taken frame ≡ Ending cause.SameSwitch ∷ []
same_switch run taken frame d tag e t among = rw e (rw t (rw among refl))

-- else the switch is armed
pub arming_dues : (run : Run) (taken frame : List ℕ) (d tag : ℕ) → datapath_of frame ≡ Some d → tag_of d run.given ≡ Some tag
    → list_any (λ other. other == d) taken ≡ false → reply_dues run taken frame ≡ frames_to Switch (arming_frames tag run.in_use)
arming_dues run taken frame d tag e t among = rw e (rw t (rw among (ap (arming_of run) t)))

pub known_as : (run : Run) (n : Now) (frame others : List ℕ) (d tag : ℕ) → is_reply n frame ≡ true → datapath_of frame ≡ Some d → tag_of d run.given ≡ Some tag
    → step run n (From_switch frame others) ≡ knows d tag run.in_use n
known_as run n frame others d tag r e t = as_reply run n frame others r ∙ rw e (rw t refl)

pub arming_walk : (run : Run) (k l : Known) (taken frame others : List ℕ) (d tag : ℕ) → is_reply k.now frame ≡ true → datapath_of frame ≡ Some d
    → tag_of d run.given ≡ Some tag → list_any (λ other. other == d) taken ≡ false
    → l ≡ walks run (with_now k (knows d tag run.in_use k.now)) (met (frames_to Switch (arming_frames tag run.in_use)))
    → l ≡ walks run k (From_switch frame others ∷ met (reply_dues run taken frame))
arming_walk run k l taken frame others d tag r e t among w =
    walk_from run k l (From_switch frame others) _ _ _ (known_as run k.now frame others d tag r e t) (arming_dues run taken frame d tag e t among) w

-- the line that tells that a switch is armed
pub armed_unknown : (run : Run) (s : ℕ) (d : Option ℕ) → d ≡ None → armed_line run s d ≡ []
armed_unknown run s d e = rw e refl

pub armed_untagged : (run : Run) (s datapath : ℕ) (d : Option ℕ) → d ≡ Some datapath → tag_of datapath run.given ≡ None → armed_line run s d ≡ []
armed_untagged run s datapath d e t = rw e (rw t refl)

pub armed_told : (run : Run) (s datapath tag : ℕ) (d : Option ℕ) → d ≡ Some datapath → tag_of datapath run.given ≡ Some tag
    → armed_line run s d ≡ Tells (line.Armed s datapath tag) ∷ []
armed_told run s datapath tag d e t = rw e (rw t refl)

arm-walk : (run : Run) (k l : Known) (d tag : ℕ) → k.now.datapath ≡ Some d → tag_of d run.given ≡ Some tag
    → l ≡ takes run (with_now k (record k.now { armed = true })) (Reports (line.Armed k.number d tag))
    → l ≡ walks run (with_now k (record k.now { armed = true })) (met (armed_line run k.number k.now.datapath))
arm-walk run k l d tag e t w =
    w ∙ ap (λ (ds : List Due). walks run (with_now k (record k.now { armed = true })) (met ds)) (sym (armed_told run k.number d tag k.now.datapath e t))

pub arm_at : (run : Run) (k view l : Known) (d tag : ℕ) → view ≡ k → view.now.datapath ≡ Some d → tag_of d run.given ≡ Some tag
    → l ≡ takes run (with_now view (record view.now { armed = true })) (Reports (line.Armed view.number d tag))
    → l ≡ walks run (with_now k (record k.now { armed = true })) (met (armed_line run k.number k.now.datapath))
arm_at run k view l d tag p e t w =
    subst (λ (x : Known). l ≡ walks run (with_now x (record x.now { armed = true })) (met (armed_line run x.number x.now.datapath))) p (arm-walk run view l d tag e t w)

-- whom a barrier reply answers -------------------------------------------------

or-false : (b : Bool) → (b || false) ≡ b
or-false true = refl
or-false false = refl

or-true : (b : Bool) → (b || true) ≡ true
or-true true = refl
or-true false = refl

reply-kind : (frame : List ℕ) → kind_of frame ≡ 19 → is_barrier_reply frame ≡ true
reply-kind frame k = ap (λ (x : ℕ). x == 19) k

answers-first : (n : Now) (frame : List ℕ) → kind_of frame ≡ 19 → answered n frame ≡ first_asker n.askers
answers-first n frame k = rw (reply-kind frame k) refl

-- none
first-stray : (askers : List Asker) (frame back : List ℕ) → asked.Stray back ≡ asked_of askers frame → (first_asker askers ≡ None) × (back ≡ frame)
first-stray [] frame back e = (refl, cc)
first-stray (asker.Arming ∷ later) frame back e = absurd (let g : asked.Stray back ≡ asked.Own asker.Arming = e in cc)
first-stray (asker.Own k ∷ later) frame back e = absurd (let g : asked.Stray back ≡ asked.Own (asker.Own k) = e in cc)
first-stray (asker.Controller k ∷ later) frame back e = absurd (let g : asked.Stray back ≡ asked.Kept = e in cc)

-- the one that arms
first-arming : (askers : List Asker) (frame : List ℕ) → asked.Own asker.Arming ≡ asked_of askers frame → first_asker askers ≡ Some asker.Arming
first-arming [] frame e = absurd (let g : asked.Own asker.Arming ≡ asked.Stray frame = e in cc)
first-arming (asker.Arming ∷ later) frame e = refl
first-arming (asker.Own k ∷ later) frame e = absurd (let g : asked.Own asker.Arming ≡ asked.Own (asker.Own k) = e in cc)
first-arming (asker.Controller k ∷ later) frame e = absurd (let g : asked.Own asker.Arming ≡ asked.Kept = e in cc)

-- an own one
first-own : (askers : List Asker) (frame : List ℕ) (edit : ℕ) → asked.Own (asker.Own edit) ≡ asked_of askers frame → first_asker askers ≡ Some (asker.Own edit)
first-own [] frame edit e = absurd (let g : asked.Own (asker.Own edit) ≡ asked.Stray frame = e in cc)
first-own (asker.Arming ∷ later) frame edit e = absurd (let g : asked.Own (asker.Own edit) ≡ asked.Own asker.Arming = e in cc)
first-own (asker.Own k ∷ later) frame edit e = let g : asked.Own (asker.Own edit) ≡ asked.Own (asker.Own k) = e in cc
first-own (asker.Controller k ∷ later) frame edit e = absurd (let g : asked.Own (asker.Own edit) ≡ asked.Kept = e in cc)

-- the controller's is kept, and no own one
pub never_controllers : (askers : List Asker) (frame : List ℕ) (edits : ℕ) → asked.Own (asker.Controller edits) ≡ asked_of askers frame → ⊥
never_controllers [] frame edits e = let g : asked.Own (asker.Controller edits) ≡ asked.Stray frame = e in cc
never_controllers (asker.Arming ∷ later) frame edits e = let g : asked.Own (asker.Controller edits) ≡ asked.Own asker.Arming = e in cc
never_controllers (asker.Own k ∷ later) frame edits e = let g : asked.Own (asker.Controller edits) ≡ asked.Own (asker.Own k) = e in cc
never_controllers (asker.Controller k ∷ later) frame edits e = let g : asked.Own (asker.Controller edits) ≡ asked.Kept = e in cc

first-kept : (askers : List Asker) (frame : List ℕ) → asked.Kept ≡ asked_of askers frame → (edits : ℕ) × (first_asker askers ≡ Some (asker.Controller edits))
first-kept [] frame e = absurd (let g : asked.Kept ≡ asked.Stray frame = e in cc)
first-kept (asker.Arming ∷ later) frame e = absurd (let g : asked.Kept ≡ asked.Own asker.Arming = e in cc)
first-kept (asker.Own k ∷ later) frame e = absurd (let g : asked.Kept ≡ asked.Own (asker.Own k) = e in cc)
first-kept (asker.Controller k ∷ later) frame e = (k, refl)

-- what each makes of the session
step-none : (run : Run) (n : Now) (frame others : List ℕ) → kind_of frame ≡ 19 → first_asker n.askers ≡ None
    → step run n (From_switch frame others) ≡ answered_by frame n
step-none run n frame others k f = as_answer run n frame others k ∙ rw f (rw (or-false n.armed) refl)

step-arming : (run : Run) (n : Now) (frame others : List ℕ) → kind_of frame ≡ 19 → first_asker n.askers ≡ Some asker.Arming
    → step run n (From_switch frame others) ≡ record (answered_by frame n) { armed = true }
step-arming run n frame others k f = as_answer run n frame others k ∙ rw f (rw (or-true n.armed) refl)

step-own : (run : Run) (n : Now) (frame others : List ℕ) (edit : ℕ) → kind_of frame ≡ 19 → first_asker n.askers ≡ Some (asker.Own edit)
    → step run n (From_switch frame others) ≡ settles edit (answered_by frame n)
step-own run n frame others edit k f = as_answer run n frame others k ∙ rw f (rw (or-false n.armed) refl)

step-kept : (run : Run) (n : Now) (frame others : List ℕ) (edits : ℕ) → kind_of frame ≡ 19 → first_asker n.askers ≡ Some (asker.Controller edits)
    → step run n (From_switch frame others) ≡ answered_by frame n
step-kept run n frame others edits k f = as_answer run n frame others k ∙ rw f (rw (or-false n.armed) refl)

-- and what it makes due
dues-by : (run : Run) (s : ℕ) (n : Now) (frame : List ℕ) (who : Option Asker) → kind_of frame ≡ 19 → first_asker n.askers ≡ who
    → barrier_dues run s n frame (answered n frame) ≡ barrier_dues run s n frame who
dues-by run s n frame who k f = ap (barrier_dues run s n frame) (answers-first n frame k ∙ f)

pub stray_walk : (run : Run) (k l : Known) (frame back others : List ℕ) → kind_of frame ≡ 19 → asked.Stray back ≡ asked_of k.now.askers frame
    → l ≡ walks run (with_now k (answered_by frame k.now)) (met (Frame Controller back ∷ []))
    → l ≡ walks run k (From_switch frame others ∷ met (barrier_dues run k.number k.now frame (answered k.now frame)))
stray_walk run k l frame back others kind e w =
    let f = first-stray k.now.askers frame back e in
    walk_from run k l (From_switch frame others) _ (Frame Controller frame ∷ []) _ (step-none run k.now frame others kind f.0) (dues-by run k.number k.now frame None kind f.0)
    (w ∙ ap (λ (b : List ℕ). walks run (with_now k (answered_by frame k.now)) (met (Frame Controller b ∷ []))) f.1)

pub stray_dues : (run : Run) (s : ℕ) (n : Now) (frame back : List ℕ) → kind_of frame ≡ 19 → asked.Stray back ≡ asked_of n.askers frame
    → barrier_dues run s n frame (answered n frame) ≡ Frame Controller back ∷ []
stray_dues run s n frame back kind e =
    let f = first-stray n.askers frame back e in
    dues-by run s n frame None kind f.0 ∙ ap (λ (b : List ℕ). Frame Controller b ∷ []) (sym f.1)

pub arming_answer : (run : Run) (k l : Known) (frame others : List ℕ) → kind_of frame ≡ 19 → asked.Own asker.Arming ≡ asked_of k.now.askers frame
    → l ≡ walks run (with_now k (record (answered_by frame k.now) { armed = true })) (met (armed_line run k.number k.now.datapath))
    → l ≡ walks run k (From_switch frame others ∷ met (barrier_dues run k.number k.now frame (answered k.now frame)))
arming_answer run k l frame others kind e w =
    let f = first-arming k.now.askers frame e in
    walk_from run k l (From_switch frame others) _ _ _ (step-arming run k.now frame others kind f) (dues-by run k.number k.now frame (Some asker.Arming) kind f) w

pub arming_answer_dues : (run : Run) (s : ℕ) (n : Now) (frame : List ℕ) → kind_of frame ≡ 19 → asked.Own asker.Arming ≡ asked_of n.askers frame
    → barrier_dues run s n frame (answered n frame) ≡ armed_line run s n.datapath
arming_answer_dues run s n frame kind e = dues-by run s n frame (Some asker.Arming) kind (first-arming n.askers frame e)

pub own_answer : (run : Run) (k l : Known) (frame others : List ℕ) (edit : ℕ) → kind_of frame ≡ 19 → asked.Own (asker.Own edit) ≡ asked_of k.now.askers frame
    → l ≡ walks run (with_now k (settles edit (answered_by frame k.now))) (met (settled_dues k.number edit (list_any (is_number edit) k.now.unsettled)))
    → l ≡ walks run k (From_switch frame others ∷ met (barrier_dues run k.number k.now frame (answered k.now frame)))
own_answer run k l frame others edit kind e w =
    let f = first-own k.now.askers frame edit e in
    walk_from run k l (From_switch frame others) _ (settled_dues k.number edit (list_any (is_number edit) k.now.unsettled)) _ (step-own run k.now frame others edit kind f) (dues-by run k.number k.now frame (Some (asker.Own edit)) kind f) w

pub own_answer_dues : (run : Run) (s : ℕ) (n : Now) (frame : List ℕ) (edit : ℕ) → kind_of frame ≡ 19 → asked.Own (asker.Own edit) ≡ asked_of n.askers frame
    → barrier_dues run s n frame (answered n frame) ≡ settled_dues s edit (list_any (is_number edit) n.unsettled)
own_answer_dues run s n frame edit kind e = dues-by run s n frame (Some (asker.Own edit)) kind (first-own n.askers frame edit e)

pub kept_answer : (run : Run) (k l : Known) (frame others : List ℕ) → kind_of frame ≡ 19 → asked.Kept ≡ asked_of k.now.askers frame
    → l ≡ with_now k (answered_by frame k.now)
    → l ≡ walks run k (From_switch frame others ∷ met (barrier_dues run k.number k.now frame (answered k.now frame)))
kept_answer run k l frame others kind e w =
    let f = first-kept k.now.askers frame e in
    walk_from run k l (From_switch frame others) _ [] _ (step-kept run k.now frame others f.0 kind f.1) (dues-by run k.number k.now frame (Some (asker.Controller f.0)) kind f.1) w

pub kept_dues : (run : Run) (s : ℕ) (n : Now) (frame : List ℕ) → kind_of frame ≡ 19 → asked.Kept ≡ asked_of n.askers frame
    → barrier_dues run s n frame (answered n frame) ≡ []
kept_dues run s n frame kind e =
    let f = first-kept n.askers frame e in
    dues-by run s n frame (Some (asker.Controller f.0)) kind f.1
