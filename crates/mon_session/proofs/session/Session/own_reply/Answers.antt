use Rattle.std.proofs.Common.{ℕ, List, ◌≡◌, false, Some, ap, sym, ◌∙◌}
use Rattle.std.specs.Prelude.{◌==◌}
use Rattle.std.specs.List.{list_any}
use Rattle.std.proofs.lemmas.Result.{on_ok_weaker}
use Rattle.of_msgs.specs.Layout.{datapath_of}
use Rattle.mon_topo.specs.Tags.{tag_of}
use Rattle.mon_world.specs.declared.event.Side.TheVariants.{Switch}
use Rattle.mon_legal.specs.Runs.{Run}
use Rattle.mon_legal.specs.Messages.{arming_frames}
use Rattle.mon_legal.specs.Directly.{frames_to, ends_in}
use Rattle.mon_session.specs.Runs.{run_of}
use Rattle.mon_session.specs.Walks.{Known, walks}
use Rattle.mon_session.specs.Entries.{with_now}
use Rattle.mon_session.specs.Entering.{knows}
use Rattle.mon_session.specs.Dues.{met}
use Rattle.mon_session.proofs.Walking.{ok_if}
use Rattle.mon_session.proofs.Replying.{arming_walk, arming_dues, frames_calm}
use Rattle.mon_session.proofs.session.Session.own_reply.Goals as goal

pub returns-clause-walk : goal.returns-clause-walk
returns-clause-walk c =
    let run : Run = run_of c.args.around.now in
    let k : Known = c.args.self.now in
    let d : ℕ = c.in-Some.datapath in
    let tag : ℕ = c.in-Some-tag_of.tag in
    let named : datapath_of c.args.frame.now ≡ Some d = sym c.read_features.ensures ∙ c.in-Some.is in
    let tagged : tag_of d run.given ≡ Some tag = sym c.tag_of.ensures ∙ c.in-Some-tag_of.is in
    let alone : list_any (λ other. other == d) c.args.around.now.taken.now ≡ false = sym c.is_among.ensures ∙ c.if-is_among.false in
    on_ok_weaker c.send_all.result
    (λ w (others : List ℕ). arming_walk run k c.send_all.new.self c.args.around.now.taken.now c.args.frame.now others d tag c.requires.reply named tagged alone
    (w run ∙ (ap (λ (x : Known). walks run x (met (frames_to Switch c.in_ok-frames.frames))) c.in_ok-know.ensures
    ∙ (ap (λ (us : List ℕ). walks run (with_now k (knows d tag us k.now)) (met (frames_to Switch c.in_ok-frames.frames))) c.in_use.ensures.value
    ∙ ap (λ (fs : List (List ℕ)). walks run (with_now k (knows d tag run.in_use k.now)) (met (frames_to Switch fs))) (c.in_ok-frames.ensures ∙ ap (arming_frames tag) c.in_use-2.ensures.value)))))
    c.send_all.ensures.walk

pub returns-clause-calm : goal.returns-clause-calm
returns-clause-calm c =
    let run : Run = run_of c.args.around.now in
    let d : ℕ = c.in-Some.datapath in
    let tag : ℕ = c.in-Some-tag_of.tag in
    let named : datapath_of c.args.frame.now ≡ Some d = sym c.read_features.ensures ∙ c.in-Some.is in
    let tagged : tag_of d run.given ≡ Some tag = sym c.tag_of.ensures ∙ c.in-Some-tag_of.is in
    let alone : list_any (λ other. other == d) c.args.around.now.taken.now ≡ false = sym c.is_among.ensures ∙ c.if-is_among.false in
    ok_if c.send_all.result (ap ends_in (arming_dues run c.args.around.now.taken.now c.args.frame.now d tag named tagged alone) ∙ frames_calm Switch (arming_frames tag run.in_use))
