-- A session has ended exactly where its end was put, and exactly where a side has a fault.
use Rattle.std.proofs.Common.{◌≡◌, ℕ, zero, suc, ◌+◌, ◌<◌, Bool, true, false, cond, List, [], ◌∷◌, ◌++◌, length, set, Option, Some, None, refl, sym, ap, subst, ◌∙◌, ◌⊎◌, inl, inr}
use Rattle.std.specs.Prelude.{◌==◌, ◌||◌}
use Rattle.std.proofs.lemmas.List.{get_or-set_same, get_or-set_other, length-append}
use Rattle.std.proofs.Math.ListN.{length-set}
use Rattle.std.proofs.lemmas.Bool.Decides.{eqb_tells}
use Rattle.of_frame.specs.declared.fault.FrameFault.{FrameFault}
use Rattle.mon_world.specs.declared.event.Side.{Side}
use Rattle.mon_world.specs.declared.event.Event.TheVariants.{Opened, Piece, Closed, Tick, Answer, Idle, Stop}
use Rattle.mon_world.specs.declared.event.Out.{Out}
use Rattle.mon_world.specs.declared.event.Out.TheVariants.{Send, Close}
use Rattle.mon_world.specs.declared.history.Entry.{Entry}
use Rattle.mon_world.specs.declared.history.Entry.TheVariants.{Given, Noted, Put, End}
use Rattle.mon_core.specs.History.{Sides, fresh, grown, completed, fault_after, after_piece, closed, ending, from_side, from_piece, session_at, sessions, openings, owed, rest_of, IsFirst, LegalSoFar, Named}
use Rattle.mon_core.specs.Streams.{has_ended}
use Rattle.mon_core.proofs.Sends.{AllSends, sends-side}

-- there are as many sessions as were opened
pub opened-in : (h : List Entry) → length (sessions h) ≡ openings h
opened-in [] = refl
opened-in (Given Opened ∷ h) = length-append (sessions h) (fresh ∷ []) ∙ ap (λ (n : ℕ). n + 1) (opened-in h)
opened-in (Given (Piece m from bytes) ∷ h) = length-set (sessions h) m _ ∙ opened-in h
opened-in (Given (Closed m) ∷ h) = opened-in h
opened-in (Given Tick ∷ h) = opened-in h
opened-in (Given (Answer index) ∷ h) = opened-in h
opened-in (Given Idle ∷ h) = opened-in h
opened-in (Given Stop ∷ h) = opened-in h
opened-in (Noted note ∷ h) = opened-in h
opened-in (Put m to frame lost ∷ h) = opened-in h
opened-in (End m ∷ h) = length-set (sessions h) m _ ∙ opened-in h

-- the outputs end the session
abbrev pub closes : ℕ → List Out → Bool
closes n [] = false
closes n (Send m to frame ∷ outs) = closes n outs
closes n (Close m ∷ outs) = (m == n) || closes n outs

-- the outputs end no session but of the first so many
abbrev pub EndsWithin : ℕ → List Out → Type 0
EndsWithin k [] = Unit {0}
EndsWithin k (Send m to frame ∷ outs) = EndsWithin k outs
EndsWithin k (Close m ∷ outs) = (m < k) × EndsWithin k outs

within-append : (k : ℕ) (outs more : List Out) → AllSends outs → EndsWithin k more → EndsWithin k (outs ++ more)
within-append k [] more sends w = w
within-append k (Send m to frame ∷ outs) more sends w = within-append k outs more sends w
within-append k (Close m ∷ outs) more sends w = absurd sends

ending-within : (k n : ℕ) (fault : Option FrameFault) → n < k → EndsWithin k (ending n fault)
ending-within k n None lt = tt
ending-within k n (Some fault) lt = (lt, tt)

piece-within : (k n : ℕ) (s : Sides) (from : Side) (bytes : List ℕ) → n < k → EndsWithin k (from_piece n s from bytes)
piece-within k n s from bytes lt =
    let led = from_side n s.table from (completed s from bytes) in
    elim s.ended as (λ b. EndsWithin k (cond b [] (led ++ ending n (fault_after s from bytes)))) [
      | true ↦ tt
      | false ↦ within-append k led (ending n (fault_after s from bytes)) (sends-side n s.table from (completed s from bytes)) (ending-within k n (fault_after s from bytes) lt)
    ]

rest-within : (k : ℕ) (outs : List Out) → EndsWithin k outs → EndsWithin k (rest_of outs)
rest-within k [] w = tt
rest-within k (Send m to frame ∷ outs) w = w
rest-within k (Close m ∷ outs) w = w.1

pub owed-within : (h : List Entry) → Named h → EndsWithin (length (sessions h)) (owed h)
owed-within [] named = tt
owed-within (Given Opened ∷ h) named = tt
owed-within (Given (Piece m from bytes) ∷ h) named =
    piece-within _ m (session_at (sessions h) m) from bytes (subst (λ (k : ℕ). m < k) (sym (length-set (sessions h) m _ ∙ opened-in h)) named.0)
owed-within (Given (Closed m) ∷ h) named = tt
owed-within (Given Tick ∷ h) named = tt
owed-within (Given (Answer index) ∷ h) named = tt
owed-within (Given Idle ∷ h) named = tt
owed-within (Given Stop ∷ h) named = tt
owed-within (Noted note ∷ h) named = owed-within h named
owed-within (Put m to frame lost ∷ h) named = rest-within _ (owed h) (owed-within h named)
owed-within (End m ∷ h) named =
    subst (λ (k : ℕ). EndsWithin k (rest_of (owed h))) (sym (length-set (sessions h) m _)) (rest-within _ (owed h) (owed-within h named))

pub first-within : (k m : ℕ) (outs : List Out) → IsFirst (Close m) outs → EndsWithin k outs → m < k
first-within k m [] first w = absurd first
first-within k m (o ∷ os) first w = (subst (λ (x : Out). EndsWithin k (x ∷ os)) first w).0

-- whether a session has ended, after a change of another one or of its own
pub session-opened : (xs : List Sides) (n : ℕ) → session_at (xs ++ fresh ∷ []) n ≡ session_at xs n
session-opened [] zero = refl
session-opened [] (suc n) = refl
session-opened (x ∷ xs) zero = refl
session-opened (x ∷ xs) (suc n) = session-opened xs n

after_piece-ended : (s : Sides) (from : Side) (bytes : List ℕ) → (after_piece s from bytes).ended ≡ s.ended
after_piece-ended s from bytes =
    elim s.ended as (λ b. (cond b s (grown s from bytes)).ended ≡ s.ended) [ true ↦ refl | false ↦ refl ]

-- the session at n, where that at m is replaced
pub set-at : (xs : List Sides) (m n : ℕ) (s : Sides) → m < length xs → ((m == n) ≡ true) × (session_at (set xs m s) n ≡ s) × (m ≡ n) ⊎ ((m == n) ≡ false) × (session_at (set xs m s) n ≡ session_at xs n)
set-at xs m n s lt =
    elim (eqb_tells m n) as (λ _. ((m == n) ≡ true) × (session_at (set xs m s) n ≡ s) × (m ≡ n) ⊎ ((m == n) ≡ false) × (session_at (set xs m s) n ≡ session_at xs n)) [
      | inl is ↦ inl (is.0, subst (λ (k : ℕ). session_at (set xs m s) k ≡ s) is.1 (get_or-set_same xs m s fresh lt), is.1)
      | inr off ↦ inr (off.0, get_or-set_other xs m n s fresh (λ e. off.1 (sym e)))
    ]

pub ended-is : (n : ℕ) (h : List Entry) → Named h → LegalSoFar h → (session_at (sessions h) n).ended ≡ has_ended n h
ended-is n [] named legal = refl
ended-is n (Given Opened ∷ h) named legal = ap (λ (s : Sides). s.ended) (session-opened (sessions h) n) ∙ ended-is n h named legal.1
ended-is n (Given (Piece m from bytes) ∷ h) named legal =
    elim (set-at (sessions h) m n (after_piece (session_at (sessions h) m) from bytes) (subst (λ (k : ℕ). m < k) (sym (opened-in h)) named.0))
    as (λ _. (session_at (set (sessions h) m (after_piece (session_at (sessions h) m) from bytes)) n).ended ≡ has_ended n h) [
      | inl is ↦ ap (λ (s : Sides). s.ended) is.1 ∙ after_piece-ended (session_at (sessions h) m) from bytes ∙ ap (λ (k : ℕ). (session_at (sessions h) k).ended) is.2 ∙ ended-is n h named.1 legal.1
      | inr off ↦ ap (λ (s : Sides). s.ended) off.1 ∙ ended-is n h named.1 legal.1
    ]
ended-is n (Given (Closed m) ∷ h) named legal = ended-is n h named.1 legal.1
ended-is n (Given Tick ∷ h) named legal = ended-is n h named legal.1
ended-is n (Given (Answer index) ∷ h) named legal = ended-is n h named legal.1
ended-is n (Given Idle ∷ h) named legal = ended-is n h named legal.1
ended-is n (Given Stop ∷ h) named legal = ended-is n h named legal.1
ended-is n (Noted note ∷ h) named legal = absurd legal
ended-is n (Put m to frame lost ∷ h) named legal = ended-is n h named legal.1
ended-is n (End m ∷ h) named legal =
    elim (set-at (sessions h) m n (closed (session_at (sessions h) m)) (first-within (length (sessions h)) m (owed h) legal.0 (owed-within h named)))
    as (λ _. (session_at (set (sessions h) m (closed (session_at (sessions h) m))) n).ended ≡ ((m == n) || has_ended n h)) [
      | inl is ↦ rw (is.0) (ap (λ (s : Sides). s.ended) is.1)
      | inr off ↦ rw (off.0) (ap (λ (s : Sides). s.ended) off.1 ∙ ended-is n h named legal.1)
    ]
