use Rattle.std.proofs.Common.{ℕ, List, sym, subst}
use Rattle.std.specs.Prelude.{Contains}
use Rattle.std.proofs.lemmas.List.Filters.{dedup_is}
use Rattle.std.proofs.lemmas.List.Kept.{Contains-dedup_nat, Contains-from_dedup}
use Rattle.std.proofs.lemmas.List.Sorted.{Contains-permutation, IsPermutation-sym}
use Rattle.std.proofs.lemmas.Map.Keys.{IsStrictlyIncreasing-dedup}
use Rattle.mon_topo.proofs.tags.in_use.Goals as goal

pub returns : goal.returns
returns c =
    let is = dedup_is _ _ _ c.dedup.ensures.filtered in
    let moved = c.sort_unstable.ensures.permutation in
    record {
      ascending = rw is (IsStrictlyIncreasing-dedup _ c.sort_unstable.ensures.sorted);
      given_each = λ tag has. subst (λ (xs : List ℕ). Contains xs tag) c.in_ok-tags.ensures (Contains-permutation _ _ tag (IsPermutation-sym _ _ moved) (Contains-from_dedup _ _ tag (rw is at has)));
      all_given = λ tag has. rw is (Contains-dedup_nat _ tag (Contains-permutation _ _ tag moved (subst (λ (xs : List ℕ). Contains xs tag) (sym c.in_ok-tags.ensures) has)));
    }
