use Rattle.mon_text.proofs.Joining.{front-is, front-other}
use Rattle.mon_text.proofs.parts.behind.Goals as goal

pub returns-then-starts_with-clause-found : goal.returns-then-starts_with-clause-found
returns-then-starts_with-clause-found c = front-is c.args.front.now c.args.text.now c.if-starts_with.ensures.value

pub returns-else-starts_with-clause-found : goal.returns-else-starts_with-clause-found
returns-else-starts_with-clause-found c = front-other c.args.front.now c.args.text.now c.if-starts_with.ensures.value
