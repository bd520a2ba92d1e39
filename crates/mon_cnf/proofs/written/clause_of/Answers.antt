use Rattle.std.proofs.Common.{◌≡◌, arith, sym, subst}
use Rattle.std.proofs.lemmas.Grind.{common_steps}
use Rattle.mon_cnf.specs.Truth.{Within}
use Rattle.mon_cnf.specs.Written.{written}
use Rattle.mon_cnf.proofs.Writing.{written-within}
use Rattle.mon_cnf.proofs.written.clause_of.Goals as goal

pub returns-clause-within : goal.returns-clause-within
returns-clause-within c =
    let e : c.loop-number.clause ≡ written c.args.vars c.args.numbers.now = grind (arith, common_steps) in
    subst (Within c.args.vars) (sym e) (written-within c.args.vars c.args.numbers.now)
