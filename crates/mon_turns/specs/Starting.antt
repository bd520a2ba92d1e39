-- What a new core is made of.
use Rattle.std.specs.Prelude.{◌≡◌, ℕ, List, [], Ok}
use Rattle.mon_topo.specs.declared.tagged.Tagged.{Tagged}
use Rattle.mon_topo.specs.Tags.{IsInUse}
use Rattle.mon_topo.specs.Colour.{coloured}
use Rattle.mon_settings.specs.declared.settings.Settings.{Settings}
use Rattle.mon_legal.specs.Runs.{Run}
use Rattle.mon_turns.specs.declared.numbers.Numbers.{Numbers}
use Rattle.mon_turns.specs.Core.{State, state_of}

-- the run of these settings, with this key, from these numbers on
abbrev pub run_with : Settings → ℕ → Numbers → List Tagged → List ℕ → Run
run_with settings key used given in_use = record {
  key = key;
  topology = settings.topology;
  given = given;
  in_use = in_use;
  retry_ticks = settings.retry_ticks;
  alarm_ticks = settings.alarm_ticks;
  watch_ticks = settings.watch_ticks;
  openings = used.session;
  last_serial = used.serial;
  last_job = used.job;
}

-- a new core: its switches were given tags, and it stands for no entry at all
pub record IsNew (settings : Settings) (key : ℕ) (used : Numbers) (run : Run) (state : State) : Type 0 where
  pub tagged : coloured settings.topology settings.tags ≡ Ok run.given
  pub used_tags : IsInUse run.given run.in_use
  pub run_is : run ≡ run_with settings key used run.given run.in_use
  pub state_is : state ≡ state_of run []
