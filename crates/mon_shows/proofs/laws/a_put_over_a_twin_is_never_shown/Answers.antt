use Rattle.mon_shows.proofs.Showing.{twin-never}
use Rattle.mon_shows.proofs.laws.a_put_over_a_twin_is_never_shown.Goals as goal

pub returns : goal.returns
returns c = twin-never
