use Rattle.mon_plan.proofs.Counting.{one-summary, summary-sums}
use Rattle.mon_plan.proofs.laws.a_table_has_one_summary.Goals as goal

pub returns-clause-one : goal.returns-clause-one
returns-clause-one c = one-summary

pub returns-clause-sum : goal.returns-clause-sum
returns-clause-sum c = summary-sums
