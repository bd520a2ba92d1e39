use Rattle.mon_solve.proofs.deciding.decide.Given as goal

-- the count before the first ask
abbrev pub ghost-answer : goal.ghost-answer
ghost-answer g a = g.S.Stop.asked a.stop.now
