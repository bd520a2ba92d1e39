use Rattle.std.proofs.Common.{◌≡◌, Ok, rules}
use Rattle.mon_topo.specs.Colour.{coloured}
use Rattle.mon_topo.proofs.Differing.{coloured-switches, coloured-differ}
use Rattle.mon_topo.proofs.greedy.colour.Goals as goal

pub returns-in-Ok-clause-each : goal.returns-in-Ok-clause-each
returns-in-Ok-clause-each c =
    let is : coloured c.args.t.now c.args.tags.now ≡ Ok c.in-Ok.tags.given = search rules in
    coloured-switches c.args.t.now c.args.tags.now c.in-Ok.tags.given is

pub returns-in-Ok-clause-differ : goal.returns-in-Ok-clause-differ
returns-in-Ok-clause-differ c =
    let is : coloured c.args.t.now c.args.tags.now ≡ Ok c.in-Ok.tags.given = search rules in
    coloured-differ c.args.t.now c.args.tags.now c.in-Ok.tags.given is
