use Rattle.std.proofs.Common.{◌≡◌, true, ℕ, List, [], ◌∷◌, ap, sym, ◌∙◌}
use Rattle.std.specs.List.{list_any}
use Rattle.std.proofs.lemmas.Result.{on_ok_weaker}
use Rattle.mon_barriers.specs.declared.barriers.Asker.TheVariants as asker
use Rattle.mon_barriers.specs.declared.barriers.Asked.TheVariants as asked
use Rattle.mon_barriers.specs.Barriers.{asked_of}
use Rattle.mon_world.specs.declared.event.Side.TheVariants.{Controller}
use Rattle.mon_legal.specs.Runs.{Run}
use Rattle.mon_legal.specs.Directly.{armed_line}
use Rattle.mon_legal.specs.Directly.Due.{Frame}
use Rattle.mon_legal.specs.Edits.{is_number}
use Rattle.mon_session.specs.Runs.{run_of}
use Rattle.mon_session.specs.Walks.{Known, walks}
use Rattle.mon_session.specs.Entries.{with_now, settles}
use Rattle.mon_session.specs.Dues.{met, settled_dues}
use Rattle.mon_session.proofs.Replying.{arming_answer, own_answer, kept_answer, stray_walk}
use Rattle.mon_session.proofs.session.Session.barrier_reply.Goals as goal

pub returns-in-Own-Arming-clause-walk : goal.returns-in-Own-Arming-clause-walk
returns-in-Own-Arming-clause-walk c =
    let run : Run = run_of c.args.around.now in
    let it : asked.Own asker.Arming ≡ asked_of c.args.self.now.now.askers c.args.frame =
    sym (c.in-Own-Arming.is ∙ ap asked.Own c.in-Own-Arming.field-0-is) ∙ c.in_ok-take_answer.ensures.asked in
    on_ok_weaker c.arm.result
    (λ w (others : List ℕ). arming_answer run c.args.self.now c.arm.new.self c.args.frame others c.requires it
    (w ∙ ap (λ (x : Known). walks run (with_now x (record x.now { armed = true })) (met (armed_line run x.number x.now.datapath))) c.in_ok-take_answer.ensures.taken))
    c.arm.ensures.walk

pub returns-in-Own-Own-clause-walk : goal.returns-in-Own-Own-clause-walk
returns-in-Own-Own-clause-walk c =
    let run : Run = run_of c.args.around.now in
    let it : asked.Own (asker.Own c.in-Own-Own.edit) ≡ asked_of c.args.self.now.now.askers c.args.frame =
    sym (c.in-Own-Own.is ∙ ap asked.Own c.in-Own-Own.field-0-is) ∙ c.in_ok-take_answer.ensures.asked in
    on_ok_weaker c.settle_behind.result
    (λ w (others : List ℕ). own_answer run c.args.self.now c.settle_behind.new.self c.args.frame others c.in-Own-Own.edit c.requires it
    (w run ∙ ap (λ (x : Known). walks run (with_now x (settles c.in-Own-Own.edit x.now))
    (met (settled_dues x.number c.in-Own-Own.edit (list_any (is_number c.in-Own-Own.edit) x.now.unsettled)))) c.in_ok-take_answer.ensures.taken))
    c.settle_behind.ensures.walk

pub returns-in-Kept-clause-walk : goal.returns-in-Kept-clause-walk
returns-in-Kept-clause-walk c =
    λ (others : List ℕ). kept_answer (run_of c.args.around.now) c.args.self.now c.take_answer.new.self c.args.frame others c.requires
    (sym c.in-Kept.is ∙ c.in_ok-take_answer.ensures.asked) c.in_ok-take_answer.ensures.taken

pub returns-in-Stray-clause-walk : goal.returns-in-Stray-clause-walk
returns-in-Stray-clause-walk c =
    let run : Run = run_of c.args.around.now in
    on_ok_weaker c.send_back.result
    (λ w (others : List ℕ). stray_walk run c.args.self.now c.send_back.new.self c.args.frame c.in-Stray.frame others c.requires
    (sym c.in-Stray.is ∙ c.in_ok-take_answer.ensures.asked)
    (w run ∙ ap (λ (x : Known). walks run x (met (Frame Controller c.in-Stray.frame ∷ []))) c.in_ok-take_answer.ensures.taken))
    c.send_back.ensures.walk
