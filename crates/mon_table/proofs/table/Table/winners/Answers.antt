use Rattle.std.proofs.Common.{◌≡◌, ℕ, List, IfOk, subst, ap, ◌∙◌}
use Rattle.mon_table.specs.Tables.{IsTable}
use Rattle.mon_table.specs.Chunks.{rules_of}
use Rattle.mon_table.proofs.Listing.{winners-from}
use Rattle.mon_table.proofs.table.Table.winners.Goals as goal

pub returns : goal.returns
returns c =
    let t = c.args.self.now in
    let table : IsTable t = subst IsTable c.self.view_is c.self.invariant.table in
    let all = winners-from c.args.h.now c.least_rank-least.result t (rules_of c.deref.result.now) (rules_of c.deref-2.result.now) table.order
    (ap rules_of c.deref.ensures.value ∙ c.self.view_is) (ap rules_of c.deref-2.ensures.value ∙ c.self.view_is) c.least_rank-least.ensures in
    subst (λ (items : List ℕ). IfOk c.places_from_rank.result (λ found. found.items ≡ items)) all c.places_from_rank.ensures
