use Rattle.mon_header.proofs.Fitting.{all-fit-push}
use Rattle.mon_header.proofs.actions.Actions.push.Goals as goal

pub invariant_of-self-2 : goal.invariant_of-self-2
invariant_of-self-2 c = rw c.in_ok-push.ensures.items (all-fit-push _ _ c.self.invariant c.requires)
