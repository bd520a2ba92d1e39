-- A frame of the switch makes of a session what its kind says.
use Rattle.std.specs.Prelude.{◌≡◌, ℕ, Bool, true, false, not, ◌==◌, ◌&&◌, ◌||◌, List, [], ◌∷◌, None, refl}
use Rattle.std.proofs.Common.{ap, eqb-true}
use Rattle.std.proofs.lemmas.Bool.{and_parts}
use Rattle.of_frame.specs.Header.{kind_of}
use Rattle.mon_legal.specs.Runs.{Run}
use Rattle.mon_legal.specs.Owns.Own.{From_switch}
use Rattle.mon_legal.specs.Messages.{is_error, is_features_reply, is_barrier_reply, is_flow_removed}
use Rattle.mon_legal.specs.Edits.{Passed, rejected_by}
use Rattle.mon_session.specs.Now.{Now, step, is_reply, known_after, tells}
use Rattle.mon_session.specs.Entering.{greets, replies, answers}

and-false : (b : Bool) → (b && false) ≡ false
and-false true = refl
and-false false = refl

pub or-false : (b : Bool) → (b || false) ≡ b
or-false true = refl
or-false false = refl

-- what is no ERROR rejects nothing
pub rejects-none : (frame : List ℕ) (ps : List Passed) → is_error frame ≡ false → rejected_by frame ps ≡ None
rejects-none frame [] e = refl
rejects-none frame (p ∷ ps) e =
    elim (p.settled) as (λ b. p.settled ≡ b → rejected_by frame (p ∷ ps) ≡ None) [
      | true ↦ λ y. rw y (rejects-none frame ps e)
      | false ↦ λ y. rw y (rw e (rejects-none frame ps e))
    ] refl

-- a frame of no such kind is no own reply, and tells of nothing
pub no-reply : (n : Now) (frame : List ℕ) → is_features_reply frame ≡ false → is_reply n frame ≡ false
no-reply n frame e = rw e (rw (and-false n.greeted) (and-false (not n.known)))

pub same-known : (n : Now) (frame others : List ℕ) → is_features_reply frame ≡ false → known_after n (From_switch frame others) ≡ n.known
same-known n frame others e = rw e (rw (and-false n.greeted) (or-false n.known))

pub tells-nothing : (n : Now) (frame : List ℕ) → is_flow_removed frame ≡ false → tells n frame ≡ false
tells-nothing n frame e = rw e refl

pub as_answer : (run : Run) (n : Now) (frame others : List ℕ) → kind_of frame ≡ 19 → step run n (From_switch frame others) ≡ answers frame n
as_answer run n frame others k =
    let e6 : is_features_reply frame ≡ false = ap (λ (x : ℕ). x == 6) k in
    let e1 : is_error frame ≡ false = ap (λ (x : ℕ). x == 1) k in
    let e11 : is_flow_removed frame ≡ false = ap (λ (x : ℕ). x == 11) k in
    let e19 : is_barrier_reply frame ≡ true = ap (λ (x : ℕ). x == 19) k in
    let none = rejects-none frame n.unsettled e1 in
    let r = no-reply n frame e6 in
    let kn = same-known n frame others e6 in
    let t = tells-nothing n frame e11 in
    rw r (rw kn (rw t (rw e19 (rw none refl))))

or-true : (b : Bool) → (b || true) ≡ true
or-true true = refl
or-true false = refl

pub as_reply : (run : Run) (n : Now) (frame others : List ℕ) → is_reply n frame ≡ true → step run n (From_switch frame others) ≡ replies run frame n
as_reply run n frame others r =
    let f = and_parts (not n.known) (n.greeted && is_features_reply frame) r in
    let g = and_parts n.greeted (is_features_reply frame) f.1 in
    let k : kind_of frame ≡ 6 = eqb-true (kind_of frame) 6 g.1 in
    let e1 : is_error frame ≡ false = ap (λ (x : ℕ). x == 1) k in
    let e11 : is_flow_removed frame ≡ false = ap (λ (x : ℕ). x == 11) k in
    let e19 : is_barrier_reply frame ≡ false = ap (λ (x : ℕ). x == 19) k in
    let none = rejects-none frame n.unsettled e1 in
    let kn : known_after n (From_switch frame others) ≡ true = rw f.1 (or-true n.known) in
    let t = tells-nothing n frame e11 in
    rw r (rw kn (rw t (rw e19 (rw none (rw (or-false n.armed) refl)))))

known-if : (k x : Bool) → (not k && x) ≡ false → (k || x) ≡ k
known-if true x e = refl
known-if false x e = e

-- a frame of no kind that counts
pub as_other : (run : Run) (n : Now) (frame others : List ℕ) → is_reply n frame ≡ false → is_barrier_reply frame ≡ false
    → is_error frame ≡ false → is_flow_removed frame ≡ false → step run n (From_switch frame others) ≡ greets n
as_other run n frame others r e19 e1 e11 =
    let none = rejects-none frame n.unsettled e1 in
    let kn : known_after n (From_switch frame others) ≡ n.known = known-if n.known (n.greeted && is_features_reply frame) r in
    let t = tells-nothing n frame e11 in
    rw r (rw kn (rw t (rw e19 (rw none (rw (or-false n.armed) refl)))))
