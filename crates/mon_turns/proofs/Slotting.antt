-- The least free slot, looked for from below.
use Rattle.std.proofs.Common.{◌≡◌, ℕ, suc, ◌+◌, ◌-◌, ◌<◌, Bool, true, false, cond, List, map, Some, refl, sym, ap, ◌∙◌, arith}
use Rattle.mon_turns.specs.Core.{State}
use Rattle.mon_turns.specs.Slots.{placed_of, free_slot}
use Rattle.mon_legal.specs.Sessions.{Placed, is_taken, least_free}

step-of : (i n : ℕ) (placed : List Placed) → 64 - i ≡ suc n → least_free (64 - i) i placed ≡ cond (is_taken placed i) (least_free n (i + 1) placed) (Some i)
step-of i n placed e = ap (λ (k : ℕ). least_free k i placed) e

one-less : (i : ℕ) → i < 64 → 64 - i ≡ suc (64 - (i + 1))
one-less i lt = omega arith

pub taken-slot : (i : ℕ) (placed : List Placed) → i < 64 → is_taken placed i ≡ true → least_free (64 - (i + 1)) (i + 1) placed ≡ least_free (64 - i) i placed
taken-slot i placed lt e =
    sym (step-of i (64 - (i + 1)) placed (one-less i lt) ∙ ap (λ (b : Bool). cond b (least_free (64 - (i + 1)) (i + 1) placed) (Some i)) e)

pub untaken-slot : (i : ℕ) (placed : List Placed) → i < 64 → is_taken placed i ≡ false → Some i ≡ least_free (64 - i) i placed
untaken-slot i placed lt e =
    sym (step-of i (64 - (i + 1)) placed (one-less i lt) ∙ ap (λ (b : Bool). cond b (least_free (64 - (i + 1)) (i + 1) placed) (Some i)) e)

pub first-slot : (core : State) → least_free (64 - 0) 0 (map placed_of core.sessions) ≡ free_slot core
unfolding free_slot
first-slot core = refl
