use Rattle.std.proofs.Common.{◌≡◌, List, length, drop}
use Rattle.mon_table.specs.declared.rule.Rule.{Rule}
use Rattle.mon_shows.specs.Views.{Viewing}
use Rattle.mon_plan.specs.Sharing.{IsPlanned, AreShares}
use Rattle.mon_plan.proofs.Sharing.{Fits}
use Rattle.mon_plan.proofs.plan.in_order.Given as goal

abbrev pub invariant-loop-place : goal.invariant-loop-place
invariant-loop-place l = record {
  count : length l.shares.items ≡ length l.fn.shares.items;
  shares : (v : Viewing) (t : List Rule) → l.fn.count ≡ length t → AreShares v t (length l.fn.shares.items) 0 t l.fn.shares.items
      → AreShares v t (length l.fn.shares.items) 0 (drop l.place t) l.shares.items;
  fits : (v : Viewing) (t : List Rule) → l.fn.count ≡ length t → AreShares v t (length l.fn.shares.items) 0 t l.fn.shares.items
      → Fits (IsPlanned v t) t (drop l.place t) l.certificates;
}
