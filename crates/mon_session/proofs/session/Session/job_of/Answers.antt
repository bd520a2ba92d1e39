use Rattle.std.proofs.Common.{ap, ◌∙◌}
use Rattle.mon_table.specs.Edits.{edited}
use Rattle.mon_table.specs.Tables.{slice}
use Rattle.mon_legal.specs.Edits.{Passed}
use Rattle.mon_legal.specs.Targets.{target_of}
use Rattle.mon_session.specs.Walks.{Known}
use Rattle.mon_session.specs.Offering.{expected_in}
use Rattle.mon_session.proofs.Offering.{job_there, job_is}
use Rattle.mon_session.proofs.session.Session.job_of.Goals as goal

pub invariant_of-result : goal.invariant_of-result
invariant_of-result c =
    job_there c.args.view.now c.args.self.now.now c.args.passed.now.edit c.rule.result.now c.in_ok-table.table c.in_ok-target.target c.requires.there
    (c.in_ok-target.ensures c.args.view.now ∙ ap (λ (p : Passed). target_of c.args.view.now p.edit) c.passed.view_is)
    (c.rule.ensures ∙ ap (λ (p : Passed). edited p.edit) c.passed.view_is)
    (c.in_ok-table.ensures ∙ ap (λ (k : Known). slice c.rule.result.now.matching (expected_in k.now)) c.self.view_is)

pub returns : goal.returns
returns c =
    job_is c.args.view.now c.in_ok-view.view c.args.self.now _ c.args.number c.args.passed.now _ c.rule.result.now c.in_ok-table.table c.in_ok-target.target
    c.self.view_is c.passed.view_is c.in_ok-view.ensures (c.in_ok-target.ensures c.args.view.now) c.rule.ensures c.in_ok-table.ensures
