use Rattle.std.proofs.Common.{◌≡◌, ℕ, List, ◌-◌, ◌^◌, true, sym, subst}
use Rattle.mon_topo.specs.Ascending.{may_follow}
use Rattle.mon_topo.proofs.Following.{may_follow-ascends}
use Rattle.mon_topo.proofs.datapaths.Datapaths.push.Goals as goal

pub invariant_of-self-2 : goal.invariant_of-self-2
invariant_of-self-2 c =
    let fits : may_follow 0 (2 ^ 64 - 1) c.self.inside.items.items c.args.datapath ≡ true = subst (λ (xs : List ℕ). may_follow 0 (2 ^ 64 - 1) xs c.args.datapath ≡ true) (sym c.self.view_is) c.requires in
    rw c.in_ok-push.ensures.items (may_follow-ascends 0 (2 ^ 64 - 1) c.args.datapath c.self.inside.items.items c.self.invariant fits)
