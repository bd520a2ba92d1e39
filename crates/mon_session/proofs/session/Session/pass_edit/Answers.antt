use Rattle.std.proofs.Common.{◌≡◌, ◌+◌, false, [], ◌∷◌, ◌++◌, Some, ap, ◌∙◌, arith}
use Rattle.mon_table.specs.Tables.{tied}
use Rattle.mon_table.specs.Edits.{edited}
use Rattle.mon_world.specs.declared.event.Side.TheVariants.{Switch}
use Rattle.mon_world.specs.declared.event.Out.TheVariants.{Send}
use Rattle.mon_legal.specs.Runs.{Run}
use Rattle.mon_session.specs.declared.step.Step.TheVariants as step
use Rattle.mon_legal.specs.Owns.Own.{Sends}
use Rattle.mon_legal.specs.Directly.{on_edit}
use Rattle.mon_session.specs.Now.{made_if}
use Rattle.mon_session.specs.Walks.{Known, takes}
use Rattle.mon_session.specs.Entries.{with_now}
use Rattle.mon_session.specs.Outputs.{dues_of}
use Rattle.mon_session.proofs.Walking.{some_run}
use Rattle.mon_session.proofs.Told.{passed_dues, edit_walk, edit_steps}
use Rattle.mon_session.proofs.session.Session.pass_edit.Goals as goal

pub returns-clause-walk : goal.returns-clause-walk
returns-clause-walk c =
    let k : Known = c.args.self.now in
    let before : c.self.inside.unsettled.count ≡ k.now.count = ap (λ (x : Known). x.now.count) c.self.view_is in
    let number : c.in-Some.number ≡ k.now.count + 1 = omega (arith, c.in-Some.ensures) in
    let due : dues_of k.number c.in-Some.number c.changes_nothing-nothing.result c.tied-tied.result ≡ on_edit k.number (k.now.count + 1) (made_if (Some c.args.edit) k.now.table) (Some c.args.edit) =
    passed_dues k.number c.in-Some.number k.now c.args.edit c.changes_nothing-nothing.result c.tied-tied.result c.requires c.changes_nothing-nothing.ensures
    (c.tied-tied.ensures ∙ (ap (tied c.self.inside.table) c.rule.ensures ∙ ap (λ (x : Known). tied x.now.table (edited c.args.edit)) c.self.view_is)) number in
    λ (run : Run). edit_walk run k c.send_on.new.self c.tell_of.new.self c.in-Some.number c.args.frame c.args.edit c.changes_nothing-nothing.result c.tied-tied.result due
    (c.in_ok-send_on.ensures.walk run ∙ ap (λ (x : Known). takes run (with_now x (record x.now { out = Some c.args.edit })) (Sends Switch c.args.frame false)) c.self.view_is)
    (c.in_ok-tell_of.ensures.walk run)

pub returns-clause-outs : goal.returns-clause-outs
returns-clause-outs c =
    let k : Known = c.args.self.now in
    let before : c.self.inside.unsettled.count ≡ k.now.count = ap (λ (x : Known). x.now.count) c.self.view_is in
    let number : c.in-Some.number ≡ k.now.count + 1 = omega (arith, c.in-Some.ensures) in
    let due : dues_of k.number c.in-Some.number c.changes_nothing-nothing.result c.tied-tied.result ≡ on_edit k.number (k.now.count + 1) (made_if (Some c.args.edit) k.now.table) (Some c.args.edit) =
    passed_dues k.number c.in-Some.number k.now c.args.edit c.changes_nothing-nothing.result c.tied-tied.result c.requires c.changes_nothing-nothing.ensures
    (c.tied-tied.ensures ∙ (ap (tied c.self.inside.table) c.rule.ensures ∙ ap (λ (x : Known). tied x.now.table (edited c.args.edit)) c.self.view_is)) number in
    edit_steps k.number c.send_on.new.self.number c.in-Some.number k.now c.args.frame c.args.edit c.changes_nothing-nothing.result c.tied-tied.result c.args.outs.now c.send_on.new.outs c.tell_of.new.outs
    (ap (λ (x : Known). x.number) (c.in_ok-send_on.ensures.walk some_run) ∙ ap (λ (x : Known). x.number) c.self.view_is) due
    (c.in_ok-send_on.ensures.outs ∙ ap (λ (x : Known). c.args.outs.now ++ step.Out (Send x.number Switch c.args.frame) ∷ []) c.self.view_is)
    c.in_ok-tell_of.ensures.outs
