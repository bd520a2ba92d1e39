use Rattle.std.proofs.Common.{◌≡◌, List, subst}
use Rattle.mon_table.specs.declared.rule.Rule.{Rule}
use Rattle.mon_shows.specs.Views.{Viewing}
use Rattle.mon_text.specs.Faults.{FileReadsAs, FailsIn}
use Rattle.mon_table_file.specs.TableFile.{IsTableText}
use Rattle.monocle.proofs.source.table_in.Goals as goal

pub returns-clause-bad : goal.returns-clause-bad
returns-clause-bad c offset bad v t is = subst (FileReadsAs {X = Viewing × List Rule} (λ x. (x.0 ≡ v) × (x.1 ≡ t))) bad (c.read_table.ensures.only v t is)

pub returns-clause-at : goal.returns-clause-at
returns-clause-at c offset bad = subst (FailsIn {X = Viewing × List Rule} IsTableText c.args.text.now) bad c.read_table.ensures.fails
