use Rattle.std.proofs.Common.{◌≡◌, true, false, [], is_some, ap, sym, ◌∙◌}
use Rattle.std.proofs.lemmas.Result.{on_ok_weaker, IfOk-weaker}
use Rattle.mon_legal.specs.Held.{due_reply}
use Rattle.mon_session.specs.Acting.{due_in, frames_due}
use Rattle.mon_legal.specs.Runs.{Run}
use Rattle.mon_session.specs.Walks.{Known}
use Rattle.mon_session.proofs.Walking.{some_run}
use Rattle.mon_session.proofs.Resting.{none_done, none_told, frames_done, frames_walk, frames_steps}
use Rattle.mon_session.proofs.session.Session.act_once.Goals as goal

pub returns-clause-done : goal.returns-clause-done
returns-clause-done c =
    let k : Known = c.args.self.now in
    let armed : k.now.armed ≡ true = ap (λ (x : Known). x.now.armed) (sym c.self.view_is) ∙ c.if-not-self.false in
    let never : k.now.postponed ≡ [] = ap (λ (x : Known). x.now.postponed) (sym c.self.view_is) in
    let none : is_some (due_reply k.now.unsettled k.now.kept) ≡ false = sym c.in_ok-release.ensures.done ∙ c.if-branch.false in
    let same : c.release.new.self ≡ k = none_done some_run k c.release.new.self (due_reply k.now.unsettled k.now.kept) none (c.in_ok-release.ensures.walk some_run) in
    IfOk-weaker c.take_frames.result (λ done. done ≡ is_some (frames_due c.release.new.self.now)) (λ done. done ≡ is_some (due_in k.now))
    (λ done d. frames_done k c.release.new.self done same armed never none d) c.take_frames.ensures.done

pub returns-clause-walk : goal.returns-clause-walk
returns-clause-walk c =
    let k : Known = c.args.self.now in
    let armed : k.now.armed ≡ true = ap (λ (x : Known). x.now.armed) (sym c.self.view_is) ∙ c.if-not-self.false in
    let never : k.now.postponed ≡ [] = ap (λ (x : Known). x.now.postponed) (sym c.self.view_is) in
    let none : is_some (due_reply k.now.unsettled k.now.kept) ≡ false = sym c.in_ok-release.ensures.done ∙ c.if-branch.false in
    let same : c.release.new.self ≡ k = none_done some_run k c.release.new.self (due_reply k.now.unsettled k.now.kept) none (c.in_ok-release.ensures.walk some_run) in
    on_ok_weaker c.take_frames.result
    (λ w (run : Run). frames_walk run k c.release.new.self c.take_frames.new.self same armed never none (w run))
    c.take_frames.ensures.walk

pub returns-clause-outs : goal.returns-clause-outs
returns-clause-outs c =
    let k : Known = c.args.self.now in
    let armed : k.now.armed ≡ true = ap (λ (x : Known). x.now.armed) (sym c.self.view_is) ∙ c.if-not-self.false in
    let never : k.now.postponed ≡ [] = ap (λ (x : Known). x.now.postponed) (sym c.self.view_is) in
    let none : is_some (due_reply k.now.unsettled k.now.kept) ≡ false = sym c.in_ok-release.ensures.done ∙ c.if-branch.false in
    let same : c.release.new.self ≡ k = none_done some_run k c.release.new.self (due_reply k.now.unsettled k.now.kept) none (c.in_ok-release.ensures.walk some_run) in
    let quiet : c.release.new.outs ≡ c.args.outs.now = none_told k.number k.now c.args.outs.now c.release.new.outs (due_reply k.now.unsettled k.now.kept) none c.in_ok-release.ensures.outs in
    on_ok_weaker c.take_frames.result
    (λ w. frames_steps k c.release.new.self c.args.outs.now c.release.new.outs c.take_frames.new.outs same quiet armed never none w)
    c.take_frames.ensures.outs
