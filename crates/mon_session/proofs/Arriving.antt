-- What each frame of the switch makes due, and the request behind the first one.
use Rattle.std.specs.Prelude.{◌≡◌, ℕ, ◌≤◌, Bool, true, false, not, ◌==◌, nat_le, ◌&&◌, if◌then◌else◌, List, [], ◌∷◌, ◌++◌, length, Option, Some, None, refl}
use Rattle.std.proofs.Common.{ap, sym, ◌∙◌, eqb-true}
use Rattle.std.proofs.Math.Bool.{and-true, and-false}
use Rattle.std.proofs.lemmas.Bool.{leb-true, and_parts}
use Rattle.std.proofs.lemmas.List.{append_assoc, append-nil}
use Rattle.of_frame.specs.Header.{kind_of}
use Rattle.mon_header.specs.declared.header.Header.{Header}
use Rattle.mon_packet.specs.declared.nonce.Nonce.{Nonce}
use Rattle.mon_packet.specs.Reading.{Read}
use Rattle.mon_report.specs.declared.line.Cause.{Cause}
use Rattle.mon_world.specs.declared.event.Side.TheVariants.{Controller, Switch}
use Rattle.mon_legal.specs.Runs.{Run}
use Rattle.mon_legal.specs.Owns.{Own}
use Rattle.mon_legal.specs.Owns.Own.{From_switch}
use Rattle.mon_legal.specs.Messages.{is_features_reply, is_barrier_reply, is_error, is_flow_removed, is_packet_in, carried_in, features_request}
use Rattle.mon_legal.specs.Edits.{rejected_by}
use Rattle.mon_legal.specs.Directly.{Due, ends_in, is_return, is_return_in}
use Rattle.mon_legal.specs.Directly.Due.{Frame, Ending}
use Rattle.mon_session.specs.declared.step.Step.{Step}
use Rattle.mon_session.specs.Now.{Now, is_reply, answered}
use Rattle.mon_session.specs.Now as Now
use Rattle.mon_session.specs.Walks.{Known, walks, steps_of}
use Rattle.mon_session.specs.Entering.{greets}
use Rattle.mon_session.specs.Returning.{own_if, own_with, own_in, return_of}
use Rattle.mon_session.specs.Dues.{meets, met, request_if, with_request, reply_dues, barrier_dues, error_dues, switch_dues, others_if, others_at}
use Rattle.mon_session.proofs.Framed.{as_other}
use Rattle.mon_session.proofs.Walking.{walks_on, steps_on}

-- the first fate that applies ---------------------------------------------------

pub due_reply : (run : Run) (s : ℕ) (taken frame : List ℕ) (n : Now) → is_reply n frame ≡ true → switch_dues run s taken n frame ≡ reply_dues run taken frame
unfolding switch_dues
due_reply run s taken frame n r = rw r refl

pub due_barrier : (run : Run) (s : ℕ) (taken frame : List ℕ) (n : Now) → is_reply n frame ≡ false → kind_of frame ≡ 19
    → switch_dues run s taken n frame ≡ barrier_dues run s n frame (answered n frame)
unfolding switch_dues
due_barrier run s taken frame n r k =
    let e19 : is_barrier_reply frame ≡ true = ap (λ (x : ℕ). x == 19) k in
    rw r (rw e19 refl)

pub due_error : (run : Run) (s : ℕ) (taken frame : List ℕ) (n : Now) → is_reply n frame ≡ false → kind_of frame ≡ 1
    → switch_dues run s taken n frame ≡ error_dues s n.armed frame (rejected_by frame n.unsettled)
unfolding switch_dues
due_error run s taken frame n r k =
    let e19 : is_barrier_reply frame ≡ false = ap (λ (x : ℕ). x == 19) k in
    let e1 : is_error frame ≡ true = ap (λ (x : ℕ). x == 1) k in
    rw r (rw e19 (rw e1 refl))

pub due_other : (run : Run) (s : ℕ) (taken frame : List ℕ) (n : Now) → is_reply n frame ≡ false → is_barrier_reply frame ≡ false → is_error frame ≡ false
    → is_return run frame ≡ false → switch_dues run s taken n frame ≡ Frame Controller frame ∷ []
unfolding switch_dues
due_other run s taken frame n r e19 e1 back = rw r (rw e19 (rw e1 (rw back refl)))

due-return : (run : Run) (s : ℕ) (taken frame : List ℕ) (n : Now) → is_reply n frame ≡ false → is_barrier_reply frame ≡ false → is_error frame ≡ false
    → is_return run frame ≡ true → switch_dues run s taken n frame ≡ []
unfolding switch_dues
due-return run s taken frame n r e19 e1 back = rw r (rw e19 (rw e1 (rw back refl)))

-- the datapaths of the others count at a FEATURES_REPLY alone
reply-none : (n : Now) (frame : List ℕ) → is_features_reply frame ≡ false → is_reply n frame ≡ false
reply-none n frame e = rw e (rw (and-false n.greeted) (and-false (not n.known)))

none-counts : (run : Run) (s : ℕ) (taken other frame : List ℕ) (n : Now) → is_reply n frame ≡ false → switch_dues run s taken n frame ≡ switch_dues run s other n frame
unfolding switch_dues
none-counts run s taken other frame n r = rw r refl

others-if : (run : Run) (s : ℕ) (taken frame : List ℕ) (n : Now) (b : Bool) → is_features_reply frame ≡ b
    → switch_dues run s (others_if b taken) n frame ≡ switch_dues run s taken n frame
others-if run s taken frame n true e = refl
others-if run s taken frame n false e = none-counts run s [] taken frame n (reply-none n frame e)

pub others_count : (run : Run) (s : ℕ) (taken frame : List ℕ) (n : Now) → switch_dues run s (others_at taken frame) n frame ≡ switch_dues run s taken n frame
others_count run s taken frame n = others-if run s taken frame n (is_features_reply frame) refl

-- a probe of this run ------------------------------------------------------------

own-some : (key : ℕ) (r : Read) (p : ℕ × Header) → own_in key r ≡ Some p → (found : Header × Option Nonce) × (r ≡ Some found)
own-some key None p e = absurd (let g : None ≡ Some p = e in cc)
own-some key (Some found) p e = (found, refl)

own-key : (key : ℕ) (h : Header) (n : Option Nonce) (p : ℕ × Header) → own_with key h n ≡ Some p → is_return_in key (Some (h, n)) ≡ true
own-key key h None p e = absurd (let g : None ≡ Some p = e in cc)
own-key key h (Some n) p e = elim (n.key == key) as (λ b. own_if b h n ≡ Some p → b ≡ true) [
  | true ↦ λ f. refl
  | false ↦ λ f. absurd (let g : None ≡ Some p = f in cc)
] e

own-returns : (key : ℕ) (r : Read) (p : ℕ × Header) → own_in key r ≡ Some p → is_return_in key r ≡ true
own-returns key None p e = absurd (let g : None ≡ Some p = e in cc)
own-returns key (Some found) p e = own-key key found.0 found.1 p e

other-key : (key : ℕ) (h : Header) (n : Option Nonce) → own_with key h n ≡ None → is_return_in key (Some (h, n)) ≡ false
other-key key h None e = refl
other-key key h (Some n) e = elim (n.key == key) as (λ b. own_if b h n ≡ None → b ≡ false) [
  | true ↦ λ f. absurd (let g : Some (n.serial, h) ≡ None = f in cc)
  | false ↦ λ f. refl
] e

other-returns : (key : ℕ) (r : Read) → own_in key r ≡ None → is_return_in key r ≡ false
other-returns key None e = refl
other-returns key (Some found) e = other-key key found.0 found.1 e

pub none_returns : (run : Run) (frame : List ℕ) → own_in run.key (carried_in frame) ≡ None → is_return run frame ≡ false
none_returns run frame e = other-returns run.key (carried_in frame) e

some-if : (b : Bool) (r : Read) (found : Header × Option Nonce) → (if b then r else None) ≡ Some found → b ≡ true
some-if true r found e = refl
some-if false r found e = absurd (let g : None ≡ Some found = e in cc)

carried-parts : (frame : List ℕ) (found : Header × Option Nonce) → carried_in frame ≡ Some found → (is_packet_in frame ≡ true) × (nat_le 18 (length frame) ≡ true)
carried-parts frame found e = and_parts (is_packet_in frame) (nat_le 18 (length frame)) (some-if _ _ _ e)

pub own_long : (key : ℕ) (frame : List ℕ) (p : ℕ × Header) → own_in key (carried_in frame) ≡ Some p → 18 ≤ length frame
own_long key frame p e =
    let some = own-some key (carried_in frame) p e in
    leb-true 18 (length frame) (carried-parts frame some.0 some.1).1

own-kind : (key : ℕ) (frame : List ℕ) (p : ℕ × Header) → own_in key (carried_in frame) ≡ Some p → kind_of frame ≡ 10
own-kind key frame p e =
    let some = own-some key (carried_in frame) p e in
    eqb-true (kind_of frame) 10 (carried-parts frame some.0 some.1).0

-- it makes nothing due, and changes nothing
pub own_dues : (run : Run) (s : ℕ) (taken frame : List ℕ) (n : Now) (p : ℕ × Header) → own_in run.key (carried_in frame) ≡ Some p → switch_dues run s taken n frame ≡ []
own_dues run s taken frame n p e =
    let k = own-kind run.key frame p e in
    let e6 : is_features_reply frame ≡ false = ap (λ (x : ℕ). x == 6) k in
    let e19 : is_barrier_reply frame ≡ false = ap (λ (x : ℕ). x == 19) k in
    let e1 : is_error frame ≡ false = ap (λ (x : ℕ). x == 1) k in
    due-return run s taken frame n (reply-none n frame e6) e19 e1 (own-returns run.key (carried_in frame) p e)

pub own_step : (run : Run) (key : ℕ) (n : Now) (frame others : List ℕ) (p : ℕ × Header) → own_in key (carried_in frame) ≡ Some p
    → Now.step run n (From_switch frame others) ≡ greets n
own_step run key n frame others p e =
    let k = own-kind key frame p e in
    let e6 : is_features_reply frame ≡ false = ap (λ (x : ℕ). x == 6) k in
    let e19 : is_barrier_reply frame ≡ false = ap (λ (x : ℕ). x == 19) k in
    let e1 : is_error frame ≡ false = ap (λ (x : ℕ). x == 1) k in
    let e11 : is_flow_removed frame ≡ false = ap (λ (x : ℕ). x == 11) k in
    as_other run n frame others (reply-none n frame e6) e19 e1 e11

-- the request behind the first frame ------------------------------------------------

pub met_on : (xs ys : List Due) → met (xs ++ ys) ≡ met xs ++ met ys
met_on [] ys = refl
met_on (x ∷ xs) ys = ap (λ (os : List Own). meets x ++ os) (met_on xs ys) ∙ sym (append_assoc (meets x) (met xs) (met ys))

asked-if : (b : Bool) (dues : List Due) → met (request_if b dues) ≡ met dues ++ met (request_if b [])
asked-if true dues = met_on dues (Frame Switch features_request ∷ [])
asked-if false dues = sym (append-nil (met dues))

asked-dues : (n : Now) (dues : List Due) → ends_in dues ≡ false → met (with_request n dues) ≡ met dues ++ met (request_if (not n.greeted) [])
asked-dues n dues calm =
    ap (λ (b : Bool). met (request_if (not n.greeted && not b) dues)) calm
    ∙ (ap (λ (b : Bool). met (request_if b dues)) (and-true (not n.greeted)) ∙ asked-if (not n.greeted) dues)

pub first_walk : (run : Run) (k l m : Known) (o : Own) (dues : List Due) → ends_in dues ≡ false → l ≡ walks run k (o ∷ met dues)
    → m ≡ walks run l (met (request_if (not k.now.greeted) [])) → m ≡ walks run k (o ∷ met (with_request k.now dues))
first_walk run k l m o dues calm w r =
    r ∙ (ap (λ (x : Known). walks run x (met (request_if (not k.now.greeted) []))) w
    ∙ (sym (walks_on run k (o ∷ met dues) (met (request_if (not k.now.greeted) [])))
    ∙ ap (λ (os : List Own). walks run k (o ∷ os)) (sym (asked-dues k.now dues calm))))

pub first_steps : (s : ℕ) (n : Now) (dues : List Due) (before mid after : List Step) → ends_in dues ≡ false → mid ≡ before ++ steps_of s (met dues)
    → after ≡ mid ++ steps_of s (met (request_if (not n.greeted) [])) → after ≡ before ++ steps_of s (met (with_request n dues))
first_steps s n dues before mid after calm w r =
    r ∙ (ap (λ (xs : List Step). xs ++ steps_of s (met (request_if (not n.greeted) []))) w
    ∙ (append_assoc before (steps_of s (met dues)) (steps_of s (met (request_if (not n.greeted) [])))
    ∙ ap (λ (xs : List Step). before ++ xs) (sym (steps_on s (met dues) (met (request_if (not n.greeted) []))) ∙ ap (steps_of s) (sym (asked-dues n dues calm)))))

-- an end is no more than itself
pub ended_dues : (n : Now) (c : Cause) (dues : List Due) → dues ≡ Ending c ∷ [] → with_request n dues ≡ Ending c ∷ []
ended_dues n c dues e =
    ap (with_request n) e ∙ ap (λ (b : Bool). request_if b (Ending c ∷ [])) (and-false (not n.greeted))

-- nothing came back
pub nothing_back : (d : Option ℕ) (frame : List ℕ) (own : Option (ℕ × Header)) → own ≡ None → return_of d frame own ≡ []
nothing_back None frame own e = refl
nothing_back (Some d) frame own e = rw e refl
