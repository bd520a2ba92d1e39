use Rattle.std.proofs.Common.{◌≡◌, drop}
use Rattle.std.specs.Prelude.{slice_get}
use Rattle.mon_core.specs.History.{armed, armed_from}
use Rattle.mon_core.proofs.sessions.Core.armed.Given as goal

abbrev pub invariant-loop-number : goal.invariant-loop-number
invariant-loop-number l = slice_get (armed_from l.number (drop l.number l.self)) l.ahead ≡ slice_get (armed l.self) l.place
