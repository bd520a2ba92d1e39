use Rattle.mon_edits.proofs.Listing.{found, missing}
use Rattle.mon_edits.proofs.naming.entry.Goals as goal

pub returns-in-Some : goal.returns-in-Some
returns-in-Some c = found _ c.args.table.now c.in-Some.place _ c.in-Some.ensures c.rule.ensures

pub returns-in-None : goal.returns-in-None
returns-in-None c = missing _ c.args.table.now c.in-None.ensures
