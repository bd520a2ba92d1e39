use Rattle.mon_shows.proofs.Seeing.{seen-tells}
use Rattle.mon_shows.proofs.laws.what_is_seen_tells_the_emission.Goals as goal

pub returns : goal.returns
returns c = seen-tells
