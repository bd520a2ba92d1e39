use Rattle.std.proofs.Common.{◌≡◌, ℕ, List, [], not, None, Err, ap, sym, ◌∙◌}
use Rattle.std.proofs.lemmas.Result.{on_ok_weaker}
use Rattle.mon_report.specs.declared.line.Cause.{Cause}
use Rattle.mon_legal.specs.Runs.{Run}
use Rattle.mon_legal.specs.Messages.{carried_in}
use Rattle.mon_session.specs.declared.step.SessionEnd.TheVariants as ends
use Rattle.mon_session.specs.Runs.{run_of}
use Rattle.mon_session.specs.Walks.{Known}
use Rattle.mon_session.specs.Dues.{others_at}
use Rattle.mon_session.specs.Returning.{own_in}
use Rattle.mon_session.proofs.Walking.{ok_if}
use Rattle.mon_session.proofs.Handled.{back_walk, back_steps, here_walk, here_steps, here_ended, back_calm, here_calm}
use Rattle.mon_session.proofs.session.Session.from_switch.Goals as goal

pub come_back-requires : goal.come_back-requires
come_back-requires c = (c.args.around.now.key, sym c.own_probe.ensures ∙ c.in-Some.is)

pub returns-in-Some-clause-walk : goal.returns-in-Some-clause-walk
returns-in-Some-clause-walk c =
    let run : Run = run_of c.args.around.now in
    let taken : List ℕ = c.args.around.now.taken.now in
    on_ok_weaker c.come_back.result
    (λ w. back_walk run c.args.self.now c.come_back.new.self taken c.args.frame (others_at taken c.args.frame) (c.in-Some.serial, c.in-Some.header)
    (sym c.own_probe.ensures ∙ c.in-Some.is) (w run (others_at taken c.args.frame)))
    c.come_back.ensures.walk

pub returns-in-Some-clause-outs : goal.returns-in-Some-clause-outs
returns-in-Some-clause-outs c =
    let run : Run = run_of c.args.around.now in
    let taken : List ℕ = c.args.around.now.taken.now in
    on_ok_weaker c.come_back.result
    (λ w. back_steps run c.args.self.now c.args.outs.now c.come_back.new.outs taken c.args.frame (c.in-Some.serial, c.in-Some.header) (sym c.own_probe.ensures ∙ c.in-Some.is) w)
    c.come_back.ensures.outs

pub returns-in-Some-clause-calm : goal.returns-in-Some-clause-calm
returns-in-Some-clause-calm c =
    ok_if c.come_back.result
    (back_calm (run_of c.args.around.now) c.args.self.now c.args.around.now.taken.now c.args.frame (c.in-Some.serial, c.in-Some.header) (sym c.own_probe.ensures ∙ c.in-Some.is))

pub returns-in_err-handle-clause-ended : goal.returns-in_err-handle-clause-ended
returns-in_err-handle-clause-ended c =
    let run : Run = run_of c.args.around.now in
    let taken : List ℕ = c.args.around.now.taken.now in
    λ (why : Cause) e.
    let failed : c.handle.result ≡ Err c.in_err-handle.field-0.0 = c.in_err-handle.was in
    let gives = c.from_residual.ensures.1 in
    let same = rw e at gives in
    let was : c.handle.result ≡ Err (ends.Ended why) = failed ∙ ap (λ x. Err x) (sym same) in
    let told = c.handle.ensures.ended why was in
    (here_ended run c.args.self.now taken c.args.frame why told.0, told.1)

pub returns-clause-walk : goal.returns-clause-walk
returns-clause-walk c =
    let run : Run = run_of c.args.around.now in
    let k : Known = c.args.self.now in
    let taken : List ℕ = c.args.around.now.taken.now in
    let first : not c.self.inside.greeted ≡ not k.now.greeted = ap (λ (x : Known). not x.now.greeted) c.self.view_is in
    on_ok_weaker c.ask_features.result
    (λ w. here_walk run k c.handle.new.self c.ask_features.new.self (not c.self.inside.greeted) taken c.args.frame (others_at taken c.args.frame) first
    c.in_ok-handle.ensures.calm (c.in_ok-handle.ensures.walk (others_at taken c.args.frame)) (w run))
    c.ask_features.ensures.walk

pub returns-clause-outs : goal.returns-clause-outs
returns-clause-outs c =
    let run : Run = run_of c.args.around.now in
    let k : Known = c.args.self.now in
    let taken : List ℕ = c.args.around.now.taken.now in
    let first : not c.self.inside.greeted ≡ not k.now.greeted = ap (λ (x : Known). not x.now.greeted) c.self.view_is in
    let none : own_in run.key (carried_in c.args.frame) ≡ None = sym c.own_probe.ensures ∙ c.in_default.is in
    on_ok_weaker c.ask_features.result
    (λ w. here_steps run k c.handle.new.self (not c.self.inside.greeted) taken c.args.frame c.args.outs.now c.handle.new.outs c.ask_features.new.outs first none
    c.in_ok-handle.ensures.calm (ap (λ (x : Known). x.number) (c.in_ok-handle.ensures.walk [])) c.in_ok-handle.ensures.outs w)
    c.ask_features.ensures.outs

pub returns-clause-calm : goal.returns-clause-calm
returns-clause-calm c =
    ok_if c.ask_features.result (here_calm (run_of c.args.around.now) c.args.self.now c.args.around.now.taken.now c.args.frame c.in_ok-handle.ensures.calm)
