use Rattle.std.proofs.Common.{◌<◌, length, ap, arith, true}
use Rattle.mon_legal.specs.Edits.{Passed}
use Rattle.mon_session.proofs.Passings.{marked_here}
use Rattle.mon_session.proofs.unsettled.mark_in.Goals as goal

pub returns-clause-marked : goal.returns-clause-marked
returns-clause-marked c =
    let less : c.newer-place.result < length c.args.edits.now.items = omega (arith, c.args.edits.now.ok.0) in
    marked_here c.requires.0 c.args.number c.newer-place.result c.args.edits.now.items c.index_mut.result.now _ c.requires.1 c.newer-place.ensures less
    c.index_mut.ensures.value (ap (λ (p : Passed). record p { reported = true }) c.behind-edits-2.view_is)
