-- A session has ended exactly where one of its sides has a fault, wherever a turn has ended.
use Rattle.std.proofs.Common.{◌≡◌, ℕ, ◌<◌, Bool, true, false, cond, List, [], ◌∷◌, ◌++◌, length, Option, Some, None, refl, sym, ap, subst, ◌∙◌, inl, inr}
use Rattle.std.specs.Prelude.{◌==◌, ◌||◌}
use Rattle.std.specs.Option.{is_some}
use Rattle.std.proofs.Math.Bool.{or-true, or-false}
use Rattle.std.proofs.lemmas.Bool.{true≢false, eq-eqb}
use Rattle.of_frame.specs.declared.fault.FrameFault.{FrameFault}
use Rattle.of_frame.specs.Cut.{Pending, cut}
use Rattle.mon_world.specs.declared.event.Side.{Side}
use Rattle.mon_world.specs.declared.event.Side.TheVariants.{Controller, Switch}
use Rattle.mon_world.specs.declared.event.Event.TheVariants.{Opened, Piece, Closed, Tick, Answer, Idle, Stop}
use Rattle.mon_world.specs.declared.event.Out.{Out}
use Rattle.mon_world.specs.declared.event.Out.TheVariants.{Send, Close}
use Rattle.mon_world.specs.declared.history.Entry.{Entry}
use Rattle.mon_world.specs.declared.history.Entry.TheVariants.{Given, Noted, Put, End}
use Rattle.mon_table.specs.declared.rule.Rule.{Rule}
use Rattle.mon_core.proofs.Sends.{AllSends, sends-side}
use Rattle.mon_core.specs.History.{Sides, fresh, completed, fault_after, after_piece, closed, ending, from_side, from_piece, session_at, sessions, owed, rest_of, IsFirst, LegalSoFar, Legal, Named}
use Rattle.mon_core.specs.Streams.{is_faulty, IsPassed, BeforeInputs, AtTurnEnds}
use Rattle.mon_core.proofs.Ending.{closes, set-at, session-opened, opened-in, ended-is, first-within, owed-within}
use Rattle.mon_core.proofs.Passing.{frames-passed, frames-brought, pending-is}

-- a side has a fault
abbrev faulted : Sides → Bool
faulted s = is_some s.controller.fault || is_some s.switch.fault

-- the outputs of a piece end its session where it leaves a fault
closes-sends : (n : ℕ) (outs more : List Out) → AllSends outs → closes n (outs ++ more) ≡ closes n more
closes-sends n [] more sends = refl
closes-sends n (Send m to frame ∷ outs) more sends = closes-sends n outs more sends
closes-sends n (Close m ∷ outs) more sends = absurd sends

closes-ending : (n : ℕ) (fault : Option FrameFault) → closes n (ending n fault) ≡ is_some fault
closes-ending n None = refl
closes-ending n (Some fault) = rw (eq-eqb n n refl) refl

closes-other : (n m : ℕ) (fault : Option FrameFault) → (m == n) ≡ false → closes n (ending m fault) ≡ false
closes-other n m None off = refl
closes-other n m (Some fault) off = rw off refl

-- the outputs of a piece of a session that has not ended
closes-piece : (n m : ℕ) (s : Sides) (from : Side) (bytes : List ℕ) → closes n (from_side m s.table from (completed s from bytes) ++ ending m (fault_after s from bytes)) ≡ closes n (ending m (fault_after s from bytes))
closes-piece n m s from bytes =
    closes-sends n (from_side m s.table from (completed s from bytes)) (ending m (fault_after s from bytes)) (sends-side m s.table from (completed s from bytes))

other-piece : (n m : ℕ) (s : Sides) (from : Side) (bytes : List ℕ) → (m == n) ≡ false → closes n (from_piece m s from bytes) ≡ false
other-piece n m s from bytes off =
    elim s.ended as (λ b. closes n (cond b [] (from_side m s.table from (completed s from bytes) ++ ending m (fault_after s from bytes))) ≡ false) [
      | true ↦ refl
      | false ↦ closes-piece n m s from bytes ∙ closes-other n m (fault_after s from bytes) off
    ]

-- neither side of a session that has not ended had a fault
none-before : (a b : Bool) → false ≡ (a || b) → (a ≡ false) × (b ≡ false)
none-before true b e = absurd (true≢false (sym e))
none-before false b e = (refl, sym e)

-- a piece of the session itself
own-piece : (n : ℕ) (c w : Pending) (t : List Rule) (ended : Bool) (from : Side) (bytes : List ℕ) → let s : Sides = record { controller = c; switch = w; table = t; ended = ended } in
    ended ≡ faulted s → ((after_piece s from bytes).ended || closes n (from_piece n s from bytes)) ≡ faulted (after_piece s from bytes)
own-piece n c w t true from bytes e = e
own-piece n c w t false Controller bytes e =
    let fault = (cut c bytes).0.fault in
    closes-piece n n (record { controller = c; switch = w; table = t; ended = false }) Controller bytes ∙ closes-ending n fault
    ∙ sym (ap (λ (b : Bool). is_some fault || b) (none-before (is_some c.fault) (is_some w.fault) e).1 ∙ or-false (is_some fault))
own-piece n c w t false Switch bytes e =
    let fault = (cut w bytes).0.fault in
    closes-piece n n (record { controller = c; switch = w; table = t; ended = false }) Switch bytes ∙ closes-ending n fault
    ∙ sym (ap (λ (b : Bool). b || is_some fault) (none-before (is_some c.fault) (is_some w.fault) e).0)

-- the session's end was put or is owed exactly where a side has a fault
abbrev Ending : ℕ → List Entry → Type 0
Ending n h = ((session_at (sessions h) n).ended || closes n (owed h)) ≡ faulted (session_at (sessions h) n)

-- nothing is owed as an input comes
as-whole : (n : ℕ) (h : List Entry) → owed h ≡ [] → Ending n h → (session_at (sessions h) n).ended ≡ faulted (session_at (sessions h) n)
as-whole n h none e =
    sym (or-false (session_at (sessions h) n).ended)
    ∙ subst (λ (os : List Out). ((session_at (sessions h) n).ended || closes n os) ≡ faulted (session_at (sessions h) n)) none e

put-closes : (n m : ℕ) (to : Side) (frame : List ℕ) (outs : List Out) → IsFirst (Send m to frame) outs → closes n (rest_of outs) ≡ closes n outs
put-closes n m to frame [] first = absurd first
put-closes n m to frame (o ∷ os) first = subst (λ (x : Out). closes n os ≡ closes n (x ∷ os)) (sym first) refl

end-closes : (n m : ℕ) (outs : List Out) → IsFirst (Close m) outs → closes n outs ≡ ((m == n) || closes n (rest_of outs))
end-closes n m [] first = absurd first
end-closes n m (o ∷ os) first = subst (λ (x : Out). closes n (x ∷ os) ≡ ((m == n) || closes n os)) (sym first) refl

faulted-closed : (s : Sides) → faulted (closed s) ≡ faulted s
faulted-closed s = refl

ending-is : (n : ℕ) (h : List Entry) → Named h → LegalSoFar h → Ending n h
ending-is n [] named legal = refl
ending-is n (Given Opened ∷ h) named legal =
    let before = as-whole n h legal.0 (ending-is n h named legal.1) in
    or-false (session_at (sessions h ++ fresh ∷ []) n).ended
    ∙ subst (λ (s : Sides). s.ended ≡ faulted s) (sym (session-opened (sessions h) n)) before
ending-is n (Given (Closed m) ∷ h) named legal =
    or-false (session_at (sessions h) n).ended ∙ as-whole n h legal.0 (ending-is n h named.1 legal.1)
ending-is n (Given Tick ∷ h) named legal =
    or-false (session_at (sessions h) n).ended ∙ as-whole n h legal.0 (ending-is n h named legal.1)
ending-is n (Given (Answer index) ∷ h) named legal =
    or-false (session_at (sessions h) n).ended ∙ as-whole n h legal.0 (ending-is n h named legal.1)
ending-is n (Given Idle ∷ h) named legal =
    or-false (session_at (sessions h) n).ended ∙ as-whole n h legal.0 (ending-is n h named legal.1)
ending-is n (Given Stop ∷ h) named legal =
    or-false (session_at (sessions h) n).ended ∙ as-whole n h legal.0 (ending-is n h named legal.1)
ending-is n (Given (Piece m from bytes) ∷ h) named legal =
    let s = session_at (sessions h) m in
    let after = after_piece s from bytes in
    elim (set-at (sessions h) m n after (subst (λ (k : ℕ). m < k) (sym (opened-in h)) named.0)) as (λ _. Ending n (Given (Piece m from bytes) ∷ h)) [
      | inl is ↦
          let own : (after.ended || closes m (from_piece m s from bytes)) ≡ faulted after =
          own-piece m s.controller s.switch s.table s.ended from bytes (as-whole m h legal.0 (ending-is m h named.1 legal.1)) in
          rw (is.1) (subst (λ (k : ℕ). (after.ended || closes k (from_piece m s from bytes)) ≡ faulted after) is.2 own)
      | inr off ↦
          rw (off.1, other-piece n m s from bytes off.0) (or-false (session_at (sessions h) n).ended ∙ as-whole n h legal.0 (ending-is n h named.1 legal.1))
    ]
ending-is n (Noted note ∷ h) named legal = absurd legal
ending-is n (Put m to frame lost ∷ h) named legal =
    ap (λ (b : Bool). (session_at (sessions h) n).ended || b) (put-closes n m to frame (owed h) legal.0) ∙ ending-is n h named legal.1
ending-is n (End m ∷ h) named legal =
    let s = session_at (sessions h) m in
    let before = ending-is n h named legal.1 in
    elim (set-at (sessions h) m n (closed s) (first-within (length (sessions h)) m (owed h) legal.0 (owed-within h named))) as (λ _. Ending n (End m ∷ h)) [
      | inl is ↦
          let closing : closes n (owed h) ≡ true = end-closes n m (owed h) legal.0 ∙ ap (λ (b : Bool). b || closes n (rest_of (owed h))) is.0 in
          let all : true ≡ faulted (session_at (sessions h) n) = sym (ap (λ (b : Bool). (session_at (sessions h) n).ended || b) closing ∙ or-true (session_at (sessions h) n).ended) ∙ before in
          rw (is.1) (all ∙ ap (λ (k : ℕ). faulted (session_at (sessions h) k)) (sym is.2))
      | inr off ↦
          let same : closes n (owed h) ≡ closes n (rest_of (owed h)) = end-closes n m (owed h) legal.0 ∙ ap (λ (b : Bool). b || closes n (rest_of (owed h))) off.0 in
          rw (off.1) (ap (λ (b : Bool). (session_at (sessions h) n).ended || b) (sym same) ∙ before)
    ]

is-passed : (h : List Entry) → Named h → Legal h → IsPassed h
is-passed h named legal = record {
  to_switch = λ n. frames-passed n h named legal;
  to_controller = λ n. frames-brought n h named legal;
  ends = λ n. sym (ended-is n h named legal.so_far) ∙ as-whole n h legal.whole (ending-is n h named legal.so_far)
      ∙ ap (λ (p : Pending). is_some p.fault || is_some (session_at (sessions h) n).switch.fault) (pending-is n Controller h named legal.so_far)
      ∙ ap (λ (p : Pending). is_faulty n Controller h || is_some p.fault) (pending-is n Switch h named legal.so_far);
}

before-inputs : (h : List Entry) → Named h → LegalSoFar h → BeforeInputs IsPassed h
before-inputs [] named legal = tt
before-inputs (Given Opened ∷ h) named legal = (is-passed h named (record { so_far = legal.1; whole = legal.0 }), before-inputs h named legal.1)
before-inputs (Given (Piece m from bytes) ∷ h) named legal = (is-passed h named.1 (record { so_far = legal.1; whole = legal.0 }), before-inputs h named.1 legal.1)
before-inputs (Given (Closed m) ∷ h) named legal = (is-passed h named.1 (record { so_far = legal.1; whole = legal.0 }), before-inputs h named.1 legal.1)
before-inputs (Given Tick ∷ h) named legal = (is-passed h named (record { so_far = legal.1; whole = legal.0 }), before-inputs h named legal.1)
before-inputs (Given (Answer index) ∷ h) named legal = (is-passed h named (record { so_far = legal.1; whole = legal.0 }), before-inputs h named legal.1)
before-inputs (Given Idle ∷ h) named legal = (is-passed h named (record { so_far = legal.1; whole = legal.0 }), before-inputs h named legal.1)
before-inputs (Given Stop ∷ h) named legal = (is-passed h named (record { so_far = legal.1; whole = legal.0 }), before-inputs h named legal.1)
before-inputs (Noted note ∷ h) named legal = absurd legal
before-inputs (Put m to frame lost ∷ h) named legal = before-inputs h named legal.1
before-inputs (End m ∷ h) named legal = before-inputs h named legal.1

pub passes-frames : (h : List Entry) → Named h → Legal h → AtTurnEnds IsPassed h
passes-frames h named legal = (is-passed h named legal, before-inputs h named legal.so_far)
