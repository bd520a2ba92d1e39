-- What a frame of the switch makes due is what the history says.
use Rattle.std.specs.Prelude.{◌≡◌, ℕ, Bool, true, false, not, ◌==◌, ◌&&◌, if◌then◌else◌, List, [], ◌∷◌, ◌++◌, Option, Some, None, is_none, refl}
use Rattle.std.proofs.Common.{ap, sym, ◌∙◌}
use Rattle.mon_barriers.specs.declared.barriers.Asker.{Asker}
use Rattle.mon_barriers.specs.declared.barriers.Asker.TheVariants as asker
use Rattle.mon_world.specs.declared.event.Side.TheVariants.{Controller, Switch}
use Rattle.mon_legal.specs.Runs.{Run}
use Rattle.mon_legal.specs.Owns.{Own}
use Rattle.mon_legal.specs.Messages.{is_features_reply, is_barrier_reply, is_error, features_request}
use Rattle.mon_legal.specs.Barriers.{answered_by, is_armed}
use Rattle.mon_legal.specs.Edits.{passed, rejected_by}
use Rattle.mon_legal.specs.Datapaths.{from_switch, replied}
use Rattle.mon_legal.specs.Directly.{Due, is_own_reply, on_switch, on_barrier, on_error, and_request, ends_in, is_return}
use Rattle.mon_legal.specs.Directly.Due.{Frame}
use Rattle.mon_session.specs.Now.{now_of, is_reply}
use Rattle.mon_session.specs.Dues.{barrier_dues, error_dues, switch_dues, request_if}
use Rattle.mon_session.specs.Standing.{FramesOwe}
use Rattle.mon_session.proofs.Tables.{rejected_open}

not-not : (b : Bool) → not (not b) ≡ b
not-not true = refl
not-not false = refl

if-same : (a b : Bool) (x y v w : List Due) → a ≡ b → x ≡ y → v ≡ w → (if a then x else v) ≡ (if b then y else w)
if-same a b x y v w e f g = rw e (rw f (rw g refl))

reply-same : (run : Run) (earlier : ℕ) (own : List Own) (frame : List ℕ) → is_own_reply own frame ≡ is_reply (now_of run earlier own) frame
reply-same run earlier own frame =
    ap (λ (b : Bool). b && (not (from_switch own == 0) && is_features_reply frame)) (sym (not-not (is_none (replied own))))

barrier-same : (run : Run) (s earlier : ℕ) (own : List Own) (frame : List ℕ) (who : Option Asker)
    → on_barrier run s own frame who ≡ barrier_dues run s (now_of run earlier own) frame who
barrier-same run s earlier own frame None = refl
barrier-same run s earlier own frame (Some asker.Arming) = refl
barrier-same run s earlier own frame (Some (asker.Own k)) = refl
barrier-same run s earlier own frame (Some (asker.Controller edits)) = refl

error-same : (s : ℕ) (own : List Own) (frame : List ℕ) (edit : Option ℕ) → on_error s own frame edit ≡ error_dues s (is_armed own) frame edit
error-same s own frame None = refl
error-same s own frame (Some k) = refl

switch-same : (run : Run) (s earlier : ℕ) (own : List Own) (frame others : List ℕ)
    → on_switch run s others own frame ≡ switch_dues run s others (now_of run earlier own) frame
unfolding on_switch switch_dues
switch-same run s earlier own frame others =
    let rest : List Due = if is_return run frame then [] else Frame Controller frame ∷ [] in
    if-same _ _ _ _ _ _ (reply-same run earlier own frame) refl
    (if-same (is_barrier_reply frame) (is_barrier_reply frame) _ _ _ _ refl (barrier-same run s earlier own frame (answered_by own frame))
    (if-same (is_error frame) (is_error frame) _ _ rest rest refl
    (error-same s own frame (rejected_by frame (passed own)) ∙ ap (λ (o : Option ℕ). error_dues s (is_armed own) frame o) (rejected_open frame (passed own)))
    refl))

both-no : (b : Bool) (dues : List Due) → (if b && false then dues ++ Frame Switch features_request ∷ [] else dues) ≡ request_if (not (not b) && false) dues
both-no true dues = refl
both-no false dues = refl

both-yes : (b : Bool) (dues : List Due) → (if b && true then dues ++ Frame Switch features_request ∷ [] else dues) ≡ request_if (not (not b) && true) dues
both-yes true dues = refl
both-yes false dues = refl

asks-same : (b : Bool) (dues : List Due) → (if b && not (ends_in dues) then dues ++ Frame Switch features_request ∷ [] else dues) ≡ request_if (not (not b) && not (ends_in dues)) dues
asks-same b dues =
    elim (ends_in dues) as (λ e. (if b && not e then dues ++ Frame Switch features_request ∷ [] else dues) ≡ request_if (not (not b) && not e) dues) [
      | true ↦ both-no b dues
      | false ↦ both-yes b dues
    ]

pub frames-owe : FramesOwe
frames-owe run s earlier dues own frame others =
    ap (and_request own) (switch-same run s earlier own frame others)
    ∙ asks-same (from_switch own == 0) (switch_dues run s others (now_of run earlier own) frame)
