use Rattle.std.proofs.Common.{◌≡◌, ℕ, ◌+◌, List, length}
use Rattle.std.specs.Vec.Iter.{into_iter_items}
use Rattle.mon_table.specs.declared.rule.Rule.{Rule}
use Rattle.mon_shows.specs.Views.{Viewing}
use Rattle.mon_plan.specs.Sharing.{AreShares, AreFound}
use Rattle.mon_plan.proofs.plan.all_found.Given as goal

abbrev pub invariant-loop-found : goal.invariant-loop-found
invariant-loop-found l = record {
  count : length l.shares.items + length (into_iter_items l.found-iterator) ≡ length l.fn.found.items;
  shares : (v : Viewing) (t : List Rule) (step : ℕ) → AreFound v t step 0 t l.fn.found.items → AreShares v t step 0 t l.shares.items;
  more : (v : Viewing) (t : List Rule) (step : ℕ) → AreFound v t step 0 t l.fn.found.items → AreFound v t step (length l.shares.items) t (into_iter_items l.found-iterator);
}
