-- An ERROR makes of a session what its kind says.
use Rattle.std.specs.Prelude.{◌≡◌, ◌≢◌, ◌↔◌, ℕ, ◌-◌, ◌≤◌, nat_le, Bool, true, false, ◌==◌, ◌&&◌, if◌then◌else◌, List, [], ◌∷◌, ◌++◌, length, take, drop, Option, Some, None, is_some, IsTrue, refl}
use Rattle.std.specs.Str.{bytes_eq}
use Rattle.std.proofs.Common.{⊎_elim, subst, ap, sym, ◌∙◌, arith}
use Rattle.std.proofs.lemmas.Bool.Decides.{eqb_tells, leb_tells}
use Rattle.std.proofs.Math.Bool.{and-false}
use Rattle.std.proofs.lemmas.Slice.Eq.{bytes_eq-Decides}
use Rattle.std.proofs.lemmas.List.{append_assoc, length-drop, take_all}
use Rattle.of_frame.specs.Header.{xid_of}
use Rattle.of_msgs.specs.Layout.{own_xid}
use Rattle.mon_report.specs.declared.line.Cause.TheVariants as cause
use Rattle.mon_report.specs.declared.line.What.TheVariants as what
use Rattle.mon_report.specs.declared.line.Line.TheVariants.{Fact}
use Rattle.mon_world.specs.declared.event.Side.TheVariants.{Controller}
use Rattle.mon_world.specs.declared.event.Out.TheVariants.{Send}
use Rattle.mon_world.specs.declared.event.Note.TheVariants.{Report}
use Rattle.mon_legal.specs.Owns.Own.{Sends, Reports}
use Rattle.mon_legal.specs.Directly.Due.{Frame, Ending}
use Rattle.mon_session.specs.declared.step.Step.{Step}
use Rattle.mon_session.specs.declared.step.Step.TheVariants as steps
use Rattle.mon_session.specs.Dues.{met, error_dues}
use Rattle.of_frame.specs.Header.{kind_of}
use Rattle.mon_legal.specs.Runs.{Run}
use Rattle.mon_legal.specs.Owns.{Own}
use Rattle.mon_legal.specs.Owns.Own.{From_switch}
use Rattle.mon_legal.specs.Messages.{is_error, is_error_for, is_own_error, is_features_reply, is_barrier_reply, is_flow_removed}
use Rattle.mon_legal.specs.Edits.{rejected_by}
use Rattle.mon_session.specs.Now.{Now, step}
use Rattle.mon_session.specs.Walks.{Known, takes, walks, steps_of}
use Rattle.mon_session.specs.Entering.{greets, rejects, rejects_edit}
use Rattle.mon_session.specs.Entries.{with_now}
use Rattle.mon_session.proofs.Framed.{no-reply, same-known, tells-nothing, or-false}

pub bytes_test : (r : Bool) (xs ys : List ℕ) → (IsTrue r ↔ (xs ≡ ys)) → r ≡ bytes_eq xs ys
bytes_test r xs ys f = grind (arith, bytes_eq-Decides xs ys, f)

as-error : (run : Run) (n : Now) (frame others : List ℕ) → kind_of frame ≡ 1 → step run n (From_switch frame others) ≡ rejects frame n
as-error run n frame others k =
    let e6 : is_features_reply frame ≡ false = ap (λ (x : ℕ). x == 6) k in
    let e11 : is_flow_removed frame ≡ false = ap (λ (x : ℕ). x == 11) k in
    let e19 : is_barrier_reply frame ≡ false = ap (λ (x : ℕ). x == 19) k in
    let r = no-reply n frame e6 in
    let kn = same-known n frame others e6 in
    let t = tells-nothing n frame e11 in
    rw r (rw kn (rw t (rw e19 (rw (or-false n.armed) (rw (or-false (is_some (rejected_by frame n.unsettled))) refl)))))

-- it rejects no edit
pub unrejected : (run : Run) (k : Known) (frame others : List ℕ) (os : List Own) → kind_of frame ≡ 1 → rejected_by frame k.now.unsettled ≡ None
    → walks run k (From_switch frame others ∷ os) ≡ walks run (with_now k (greets k.now)) os
unrejected run k frame others os kind none =
    ap (λ (n : Now). walks run (with_now k n) os) (as-error run k.now frame others kind ∙ rw none refl)

-- it rejects one
pub rejected : (run : Run) (k : Known) (frame others : List ℕ) (edit : ℕ) (os : List Own) → kind_of frame ≡ 1 → rejected_by frame k.now.unsettled ≡ Some edit
    → k.now.postponed ≡ []
    → walks run k (From_switch frame others ∷ os) ≡ walks run (with_now k (rejects_edit edit (greets k.now))) os
rejected run k frame others edit os kind some none =
    ap (λ (n : Now). walks run (with_now k n) os) (as-error run k.now frame others kind ∙ rw some (rw none refl))

-- one with another xid goes on
by-own : (s : ℕ) (armed : Bool) (frame : List ℕ) (b : Bool) → is_own_error frame ≡ b
    → error_dues s armed frame None ≡ (if b then (if armed then [] else Ending cause.NotArmed ∷ []) else Frame Controller frame ∷ [])
by-own s armed frame b e = ap (λ (o : Bool). if o then (if armed then [] else Ending cause.NotArmed ∷ []) else Frame Controller frame ∷ []) e

pub passes_on : (s : ℕ) (armed : Bool) (frame : List ℕ) → (xid_of frame == own_xid) ≡ false → error_dues s armed frame None ≡ Frame Controller frame ∷ []
passes_on s armed frame e = by-own s armed frame false (ap (λ (b : Bool). is_error frame && b) e ∙ and-false (is_error frame))

-- one with the proxy's own goes no further, and ends a session that is not armed
own-is : (frame : List ℕ) → kind_of frame ≡ 1 → (xid_of frame == own_xid) ≡ true → is_own_error frame ≡ true
own-is frame k e = ap (λ (x : ℕ). (x == 1) && (xid_of frame == own_xid)) k ∙ e

pub goes_no_further : (s : ℕ) (armed : Bool) (frame : List ℕ) → kind_of frame ≡ 1 → (xid_of frame == own_xid) ≡ true → armed ≡ true → error_dues s armed frame None ≡ []
goes_no_further s armed frame k e a = by-own s armed frame true (own-is frame k e) ∙ ap (λ (b : Bool). if b then [] else Ending cause.NotArmed ∷ []) a

pub ends_unarmed : (s : ℕ) (armed : Bool) (frame : List ℕ) → kind_of frame ≡ 1 → (xid_of frame == own_xid) ≡ true → armed ≡ false
    → error_dues s armed frame None ≡ Ending cause.NotArmed ∷ []
ends_unarmed s armed frame k e a = by-own s armed frame true (own-is frame k e) ∙ ap (λ (b : Bool). if b then [] else Ending cause.NotArmed ∷ []) a

-- the frame goes on, and the edit is told to be rejected
pub rejection_walk : (run : Run) (k l m : Known) (armed : Bool) (frame : List ℕ) (edit s : ℕ) → s ≡ l.number → l ≡ takes run k (Sends Controller frame false)
    → m ≡ takes run l (Reports (Fact s edit what.Rejected)) → m ≡ walks run k (met (error_dues k.number armed frame (Some edit)))
rejection_walk run k l m armed frame edit s e v w =
    w ∙ (ap (λ (x : ℕ). takes run l (Reports (Fact x edit what.Rejected))) e ∙ ap (λ (x : Known). takes run x (Reports (Fact x.number edit what.Rejected))) v)

pub rejection_steps : (s r edit : ℕ) (armed : Bool) (frame : List ℕ) (before mid after : List Step) → r ≡ s → mid ≡ before ++ steps.Out (Send s Controller frame) ∷ []
    → after ≡ mid ++ steps.Note (Report (Fact r edit what.Rejected)) ∷ [] → after ≡ before ++ steps_of s (met (error_dues s armed frame (Some edit)))
rejection_steps s r edit armed frame before mid after e v w =
    w ∙ (ap (λ (x : ℕ). mid ++ steps.Note (Report (Fact x edit what.Rejected)) ∷ []) e
    ∙ (ap (λ (xs : List Step). xs ++ steps.Note (Report (Fact s edit what.Rejected)) ∷ []) v
    ∙ append_assoc before (steps.Out (Send s Controller frame) ∷ []) (steps.Note (Report (Fact s edit what.Rejected)) ∷ [])))

-- an ERROR for a frame, by its parts
pub error_for : (r : Bool) (error frame bytes sent front first : List ℕ) → kind_of error ≡ 1 → xid_of error ≡ xid_of frame → bytes ≡ error → sent ≡ frame → 12 ≤ length bytes
    → front ≡ take 64 (take (length bytes - 12) (drop 12 bytes)) → first ≡ take 64 sent → r ≡ bytes_eq front first → r ≡ is_error_for error frame
error_for r error frame bytes sent front first k x b s le f g w =
    let long : 12 ≤ length error = subst (λ (ys : List ℕ). 12 ≤ length ys) b le in
    let e1 : is_error error ≡ true = ap (λ (n : ℕ). n == 1) k in
    let e2 : nat_le 12 (length error) ≡ true = ⊎_elim (λ t. t.0) (λ t. absurd (omega (arith, long, t.1))) (leb_tells 12 (length error)) in
    let e3 : (xid_of error == xid_of frame) ≡ true = grind (arith, eqb_tells (xid_of error) (xid_of frame), x) in
    let all : take (length bytes - 12) (drop 12 bytes) ≡ drop 12 bytes = take_all (length bytes - 12) (drop 12 bytes) (omega (arith, length-drop 12 bytes)) in
    let same : bytes_eq front first ≡ bytes_eq (take 64 (drop 12 error)) (take 64 frame) =
    ap (λ (ys : List ℕ). bytes_eq ys first) (f ∙ (ap (take 64) all ∙ ap (λ (ys : List ℕ). take 64 (drop 12 ys)) b))
    ∙ ap (λ (ys : List ℕ). bytes_eq (take 64 (drop 12 error)) ys) (g ∙ ap (take 64) s) in
    w ∙ (same ∙ sym
    (ap (λ (q : Bool). q && (nat_le 12 (length error) && ((xid_of error == xid_of frame) && bytes_eq (take 64 (drop 12 error)) (take 64 frame)))) e1
    ∙ (ap (λ (q : Bool). q && ((xid_of error == xid_of frame) && bytes_eq (take 64 (drop 12 error)) (take 64 frame))) e2
    ∙ ap (λ (q : Bool). q && bytes_eq (take 64 (drop 12 error)) (take 64 frame)) e3)))

pub not_own : (frame : List ℕ) (x : ℕ) → x ≡ xid_of frame → x ≢ own_xid → (xid_of frame == own_xid) ≡ false
not_own frame x e other = ⊎_elim (λ t. absurd (other (e ∙ t.1))) (λ t. t.0) (eqb_tells (xid_of frame) own_xid)

-- the whole frame, where it rejects an edit
pub error_walk : (run : Run) (k g l m : Known) (frame others : List ℕ) (edit : ℕ) → kind_of frame ≡ 1 → k.now.postponed ≡ [] → g ≡ with_now k (greets k.now)
    → rejected_by frame k.now.unsettled ≡ Some edit → l ≡ with_now g (rejects_edit edit g.now) → m ≡ walks run l (met (error_dues l.number l.now.armed frame (Some edit)))
    → m ≡ walks run k (From_switch frame others ∷ met (error_dues k.number k.now.armed frame (rejected_by frame k.now.unsettled)))
error_walk run k g l m frame others edit kind none e some v w =
    w ∙ (ap (λ (x : Known). walks run x (met (error_dues x.number x.now.armed frame (Some edit)))) (v ∙ ap (λ (x : Known). with_now x (rejects_edit edit x.now)) e)
    ∙ (sym (rejected run k frame others edit (met (error_dues k.number k.now.armed frame (Some edit))) kind some none)
    ∙ ap (λ (r : Option ℕ). walks run k (From_switch frame others ∷ met (error_dues k.number k.now.armed frame r))) (sym some)))
