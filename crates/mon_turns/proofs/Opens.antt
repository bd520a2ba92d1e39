-- An opening in its place.
use Rattle.std.proofs.Common.{◌≡◌, ℕ, zero, suc, ◌+◌, ◌<◌, true, false, cond, List, ◌∷◌, Some, None, refl, sym, subst, arith}
use Rattle.mon_world.specs.declared.event.Event.TheVariants.{Opened}
use Rattle.mon_world.specs.declared.history.Entry.TheVariants.{Given}
use Rattle.mon_legal.specs.Runs.{Run}
use Rattle.mon_legal.specs.Moments.{Moment}
use Rattle.mon_legal.specs.Moments.Moment.{Is}
use Rattle.mon_legal.specs.Sessions.{Placed, is_taken, least_free, open_with_slot, next_slot}
use Rattle.mon_legal.specs.Ordering.{Next}
use Rattle.mon_legal.specs.Passing.{Comes}
use Rattle.mon_legal.proofs.Coming.{some-same}
use Rattle.mon_legal.proofs.Offered.{jobs-are-offered}
use Rattle.mon_turns.specs.Laws.{OpeningsStand}
use Rattle.mon_turns.proofs.Born.{less-room}
use Rattle.mon_turns.proofs.Opened.{state-after}
use Rattle.mon_turns.proofs.Quiet.{rests, rests-opened, rested}

-- a free slot of the first n from one on is below their end
free-low : (n from slot : ℕ) (placed : List Placed) → least_free n from placed ≡ Some slot → slot < from + n
free-low zero from slot placed e = absurd (let g : None ≡ Some slot = e in cc)
free-low (suc n) from slot placed e =
    elim (is_taken placed from) as (λ b. cond b (least_free n (from + 1) placed) (Some from) ≡ Some slot → slot < from + suc n) [
      | true ↦ λ g. let l : slot < (from + 1) + n = free-low n (from + 1) slot placed g in omega arith
      | false ↦ λ g. subst (λ (k : ℕ). k < from + suc n) (some-same from slot g) (omega arith)
    ] e

pub next-low : (run : Run) (f : List Moment) (slot : ℕ) → next_slot run f ≡ Some slot → slot < 64
next-low run f slot e = let l : slot < 0 + 64 = free-low 64 0 slot (open_with_slot run f) e in omega arith

pub openings-stand : OpeningsStand
openings-stand run f slot room order nothing e =
    let less = less-room run f room in
    let offered = jobs-are-offered run f order in (
      (nothing, subst (λ (n : Next). Comes run f n (Is (Given Opened))) (sym nothing) refl, order),
      rested run (Is (Given Opened) ∷ f) (rests-opened run f slot less offered e (rests run f nothing)),
      state-after run f slot room offered e (next-low run f slot e),
    )
