-- What a session is told of its run.
use Rattle.mon_legal.specs.Runs.{Run}
use Rattle.mon_session.specs.declared.around.Around.{Around}

-- the run as a session sees it: no number that was used before counts for one session
abbrev pub run_of : Around → Run
run_of around = record {
  key = around.key;
  topology = around.topology.now;
  given = around.tags.now.given;
  in_use = around.tags.now.in_use;
  retry_ticks = around.retry_ticks;
  alarm_ticks = around.alarm_ticks;
  watch_ticks = around.watch_ticks;
  openings = 0;
  last_serial = 0;
  last_job = 0;
}
