use Rattle.std.proofs.Common.{◌≡◌, ◌-◌}
use Rattle.mon_text.proofs.Pairs.{onto}
use Rattle.mon_table_file.specs.Reading.{tags_in}
use Rattle.mon_table_file.proofs.lines.tags_at.Given as goal

-- the tags that were read, and those that still are
abbrev pub invariant-loop : goal.invariant-loop
invariant-loop l = onto l.tags.items (tags_in (65 - l.counter) l.rest) ≡ tags_in 65 l.text
