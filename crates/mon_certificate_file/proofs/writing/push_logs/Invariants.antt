use Rattle.std.proofs.Common.{◌≡◌, ◌++◌, take, length, decimal}
use Rattle.std.specs.List.{flat_map, AllByRecursion}
use Rattle.mon_refute.specs.Text.{log_text, FitsLog}
use Rattle.mon_certificate_file.proofs.writing.push_logs.Given as goal
use Rattle.mon_text.specs.Parts.{feed}

abbrev pub invariant-loop-log : goal.invariant-loop-log
invariant-loop-log l = record {
  text : l.out.items ≡ l.fn.out.items ++ (decimal (length l.logs) ++ (feed ++ flat_map log_text (take l.log-index l.items)));
  fits : AllByRecursion FitsLog (take l.log-index l.items);
}
