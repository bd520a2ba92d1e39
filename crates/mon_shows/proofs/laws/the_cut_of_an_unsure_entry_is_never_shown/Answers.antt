use Rattle.mon_shows.proofs.Showing.{cut-never}
use Rattle.mon_shows.proofs.laws.the_cut_of_an_unsure_entry_is_never_shown.Goals as goal

pub returns : goal.returns
returns c = cut-never
