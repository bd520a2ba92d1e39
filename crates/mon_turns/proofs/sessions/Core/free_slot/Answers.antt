use Rattle.std.proofs.Common.{◌≡◌, ℕ, ◌-◌, map, sym, ap, ◌∙◌, arith}
use Rattle.mon_legal.specs.Sessions.{least_free}
use Rattle.mon_turns.specs.Slots.{placed_of}
use Rattle.mon_turns.proofs.Slotting.{first-slot, taken-slot, untaken-slot}
use Rattle.mon_turns.proofs.sessions.Core.free_slot.Goals as goal

pub loop-slot-init : goal.loop-slot-init
loop-slot-init c = first-slot c.args.self.now.state

pub returns-then-not-is_taken-clause-value : goal.returns-then-not-is_taken-clause-value
returns-then-not-is_taken-clause-value c =
    untaken-slot c.loop-slot.slot (map placed_of c.args.self.now.state.sessions) c.loop-slot-test.true (sym c.is_taken.ensures ∙ c.if-not-is_taken.true)
    ∙ c.loop-slot.invariant

pub loop-slot-preserved : goal.loop-slot-preserved
loop-slot-preserved c =
    taken-slot c.loop-slot.slot (map placed_of c.args.self.now.state.sessions) c.loop-slot-test.true (sym c.is_taken.ensures ∙ c.if-not-is_taken.false)
    ∙ c.loop-slot.invariant

pub returns-clause-value : goal.returns-clause-value
returns-clause-value c =
    let e : c.loop-slot.slot ≡ 64 = omega arith in
    ap (λ (k : ℕ). least_free (64 - k) k (map placed_of c.args.self.now.state.sessions)) (sym e) ∙ c.loop-slot.invariant
