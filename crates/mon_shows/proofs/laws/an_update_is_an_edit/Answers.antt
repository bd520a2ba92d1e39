use Rattle.mon_shows.proofs.Undoing.{put-undone}
use Rattle.mon_shows.proofs.laws.an_update_is_an_edit.Goals as goal

pub returns-clause-put : goal.returns-clause-put
returns-clause-put c = put-undone
