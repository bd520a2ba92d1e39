use Rattle.mon_session.specs.Acting.{Acted}
use Rattle.mon_session.specs.Runs.{run_of}
use Rattle.mon_session.proofs.session.Session.act.Given as goal

abbrev pub invariant-loop : goal.invariant-loop
invariant-loop l = Acted (run_of l.around) l.initial.self l.self l.initial.outs l.outs
