use Rattle.std.proofs.Common.{List, ◌++◌, ap, sym, ◌∙◌, refl}
use Rattle.std.proofs.lemmas.Result.{on_ok_weaker}
use Rattle.mon_report.specs.declared.line.Line.TheVariants.{Confirmed}
use Rattle.mon_legal.specs.Runs.{Run}
use Rattle.mon_legal.specs.Owns.{Own}
use Rattle.mon_legal.specs.Messages.{own_barrier}
use Rattle.mon_session.specs.Walks.{Known, walks, steps_of}
use Rattle.mon_session.proofs.Walking.{some_run}
use Rattle.mon_session.proofs.Returning.{confirms_over, confirms_alone, reported_walk, reported_steps}
use Rattle.mon_session.proofs.session.Session.confirm.Goals as goal

pub send_barrier-requires : goal.send_barrier-requires
send_barrier-requires c = record { none = ap (λ (x : Known). x.now.out) (c.in_ok-tell_confirmed.ensures.walk some_run) }

pub returns-then-not-branch-clause-walk : goal.returns-then-not-branch-clause-walk
returns-then-not-branch-clause-walk c =
    λ (run : Run). c.in_ok-tell_confirmed.ensures.walk run
    ∙ ap (walks run c.args.self.now) (sym (confirms_alone c.args.self.now.number c.args.self.now.now c.args.serial c.args.edit
    (sym c.in_ok-tell_confirmed.ensures.over ∙ c.if-not-branch.true)))

pub returns-clause-walk : goal.returns-clause-walk
returns-clause-walk c =
    on_ok_weaker c.send_barrier.result
    (λ w (run : Run). reported_walk run c.args.self.now c.tell_confirmed.new.self c.send_barrier.new.self (Confirmed c.args.self.now.number c.args.edit c.args.serial)
    own_barrier refl (c.in_ok-tell_confirmed.ensures.walk run) (w run)
    ∙ ap (walks run c.args.self.now) (sym (confirms_over c.args.self.now.number c.args.self.now.now c.args.serial c.args.edit
    (sym c.in_ok-tell_confirmed.ensures.over ∙ c.if-not-branch.false))))
    c.send_barrier.ensures.walk

pub returns-clause-outs : goal.returns-clause-outs
returns-clause-outs c =
    on_ok_weaker c.send_barrier.result
    (λ w. reported_steps c.args.self.now.number c.tell_confirmed.new.self.number (Confirmed c.args.self.now.number c.args.edit c.args.serial)
    own_barrier c.args.outs.now c.tell_confirmed.new.outs c.send_barrier.new.outs
    (ap (λ (x : Known). x.number) (c.in_ok-tell_confirmed.ensures.walk some_run)) refl c.in_ok-tell_confirmed.ensures.outs w
    ∙ ap (λ (os : List Own). c.args.outs.now ++ steps_of c.args.self.now.number os)
    (sym (confirms_over c.args.self.now.number c.args.self.now.now c.args.serial c.args.edit (sym c.in_ok-tell_confirmed.ensures.over ∙ c.if-not-branch.false))))
    c.send_barrier.ensures.outs
