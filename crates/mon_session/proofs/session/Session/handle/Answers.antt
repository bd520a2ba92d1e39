use Rattle.std.proofs.Common.{◌≡◌, ℕ, List, [], ◌∷◌, false, refl, ap, sym, ◌∙◌}
use Rattle.std.specs.Prelude.{◌==◌}
use Rattle.std.proofs.lemmas.Result.{on_ok_weaker}
use Rattle.of_frame.specs.Header.{kind_of}
use Rattle.mon_report.specs.declared.line.Cause.{Cause}
use Rattle.mon_world.specs.declared.event.Side.TheVariants.{Controller}
use Rattle.mon_legal.specs.Runs.{Run}
use Rattle.mon_legal.specs.Owns.Own.{From_switch}
use Rattle.mon_legal.specs.Messages.{is_barrier_reply, is_error}
use Rattle.mon_legal.specs.Edits.{rejected_by}
use Rattle.mon_legal.specs.Directly.Due.{Frame}
use Rattle.mon_session.specs.Now.{answered}
use Rattle.mon_session.specs.Runs.{run_of}
use Rattle.mon_session.specs.Walks.{Known}
use Rattle.mon_session.specs.Dues.{reply_dues, barrier_dues, error_dues, switch_dues}
use Rattle.mon_session.proofs.Arriving.{due_reply, due_barrier, due_error, due_other}
use Rattle.mon_session.proofs.Handled.{walk_as, steps_as, calm_as, barrier_calm, other_kind}
use Rattle.mon_session.proofs.session.Session.handle.Goals as goal

pub returns-then-is_reply-clause-walk : goal.returns-then-is_reply-clause-walk
returns-then-is_reply-clause-walk c =
    let run : Run = run_of c.args.around.now in
    let k : Known = c.args.self.now in
    let taken : List ℕ = c.args.around.now.taken.now in
    let due : switch_dues run k.number taken k.now c.args.frame ≡ reply_dues run taken c.args.frame =
    due_reply run k.number taken c.args.frame k.now (sym c.is_reply.ensures ∙ c.if-is_reply.true) in
    on_ok_weaker c.own_reply.result
    (λ w (others : List ℕ). walk_as run k c.own_reply.new.self (From_switch c.args.frame others) (reply_dues run taken c.args.frame) (switch_dues run k.number taken k.now c.args.frame) due (w others))
    c.own_reply.ensures.walk

pub returns-then-is_reply-clause-calm : goal.returns-then-is_reply-clause-calm
returns-then-is_reply-clause-calm c =
    let run : Run = run_of c.args.around.now in
    let k : Known = c.args.self.now in
    let taken : List ℕ = c.args.around.now.taken.now in
    let due : switch_dues run k.number taken k.now c.args.frame ≡ reply_dues run taken c.args.frame =
    due_reply run k.number taken c.args.frame k.now (sym c.is_reply.ensures ∙ c.if-is_reply.true) in
    on_ok_weaker c.own_reply.result (λ w. calm_as (reply_dues run taken c.args.frame) (switch_dues run k.number taken k.now c.args.frame) due w) c.own_reply.ensures.calm

pub returns-then-is_reply-clause-outs : goal.returns-then-is_reply-clause-outs
returns-then-is_reply-clause-outs c =
    let run : Run = run_of c.args.around.now in
    let k : Known = c.args.self.now in
    let taken : List ℕ = c.args.around.now.taken.now in
    let due : switch_dues run k.number taken k.now c.args.frame ≡ reply_dues run taken c.args.frame =
    due_reply run k.number taken c.args.frame k.now (sym c.is_reply.ensures ∙ c.if-is_reply.true) in
    on_ok_weaker c.own_reply.result
    (λ w. steps_as k.number c.args.outs.now c.own_reply.new.outs (reply_dues run taken c.args.frame) (switch_dues run k.number taken k.now c.args.frame) due w)
    c.own_reply.ensures.outs

pub returns-then-is_reply-clause-ended : goal.returns-then-is_reply-clause-ended
returns-then-is_reply-clause-ended c =
    let run : Run = run_of c.args.around.now in
    let k : Known = c.args.self.now in
    let taken : List ℕ = c.args.around.now.taken.now in
    let due : switch_dues run k.number taken k.now c.args.frame ≡ reply_dues run taken c.args.frame =
    due_reply run k.number taken c.args.frame k.now (sym c.is_reply.ensures ∙ c.if-is_reply.true) in
    λ (why : Cause) e.
    let ends = c.own_reply.ensures.ended why e in
    (due ∙ ends.0, ends.1)

pub returns-then-kind-eq-BARRIER_REPLY-clause-walk : goal.returns-then-kind-eq-BARRIER_REPLY-clause-walk
returns-then-kind-eq-BARRIER_REPLY-clause-walk c =
    let run : Run = run_of c.args.around.now in
    let k : Known = c.args.self.now in
    let taken : List ℕ = c.args.around.now.taken.now in
    let kind : kind_of c.args.frame ≡ 19 = sym c.kind-kind.ensures ∙ c.if-kind-eq-BARRIER_REPLY.true in
    let due : switch_dues run k.number taken k.now c.args.frame ≡ barrier_dues run k.number k.now c.args.frame (answered k.now c.args.frame) =
    due_barrier run k.number taken c.args.frame k.now (sym c.is_reply.ensures ∙ c.if-is_reply.false) kind in
    λ (others : List ℕ). walk_as run k c.barrier_reply.new.self (From_switch c.args.frame others) (barrier_dues run k.number k.now c.args.frame (answered k.now c.args.frame))
    (switch_dues run k.number taken k.now c.args.frame) due (c.in_ok-barrier_reply.ensures.walk others)

pub returns-then-kind-eq-BARRIER_REPLY-clause-calm : goal.returns-then-kind-eq-BARRIER_REPLY-clause-calm
returns-then-kind-eq-BARRIER_REPLY-clause-calm c =
    let run : Run = run_of c.args.around.now in
    let k : Known = c.args.self.now in
    let taken : List ℕ = c.args.around.now.taken.now in
    let kind : kind_of c.args.frame ≡ 19 = sym c.kind-kind.ensures ∙ c.if-kind-eq-BARRIER_REPLY.true in
    let due : switch_dues run k.number taken k.now c.args.frame ≡ barrier_dues run k.number k.now c.args.frame (answered k.now c.args.frame) =
    due_barrier run k.number taken c.args.frame k.now (sym c.is_reply.ensures ∙ c.if-is_reply.false) kind in
    calm_as (barrier_dues run k.number k.now c.args.frame (answered k.now c.args.frame)) (switch_dues run k.number taken k.now c.args.frame) due
    (barrier_calm run k.number k.now c.args.frame (answered k.now c.args.frame))

pub returns-then-kind-eq-BARRIER_REPLY-clause-outs : goal.returns-then-kind-eq-BARRIER_REPLY-clause-outs
returns-then-kind-eq-BARRIER_REPLY-clause-outs c =
    let run : Run = run_of c.args.around.now in
    let k : Known = c.args.self.now in
    let taken : List ℕ = c.args.around.now.taken.now in
    let kind : kind_of c.args.frame ≡ 19 = sym c.kind-kind.ensures ∙ c.if-kind-eq-BARRIER_REPLY.true in
    let due : switch_dues run k.number taken k.now c.args.frame ≡ barrier_dues run k.number k.now c.args.frame (answered k.now c.args.frame) =
    due_barrier run k.number taken c.args.frame k.now (sym c.is_reply.ensures ∙ c.if-is_reply.false) kind in
    steps_as k.number c.args.outs.now c.barrier_reply.new.outs (barrier_dues run k.number k.now c.args.frame (answered k.now c.args.frame)) (switch_dues run k.number taken k.now c.args.frame) due
    c.in_ok-barrier_reply.ensures.outs

pub returns-then-kind-eq-ERROR-clause-walk : goal.returns-then-kind-eq-ERROR-clause-walk
returns-then-kind-eq-ERROR-clause-walk c =
    let run : Run = run_of c.args.around.now in
    let k : Known = c.args.self.now in
    let taken : List ℕ = c.args.around.now.taken.now in
    let kind : kind_of c.args.frame ≡ 1 = sym c.kind-kind.ensures ∙ c.if-kind-eq-ERROR.true in
    let due : switch_dues run k.number taken k.now c.args.frame ≡ error_dues k.number k.now.armed c.args.frame (rejected_by c.args.frame k.now.unsettled) =
    due_error run k.number taken c.args.frame k.now (sym c.is_reply.ensures ∙ c.if-is_reply.false) kind in
    on_ok_weaker c.error.result
    (λ w (others : List ℕ). walk_as run k c.error.new.self (From_switch c.args.frame others) (error_dues k.number k.now.armed c.args.frame (rejected_by c.args.frame k.now.unsettled))
    (switch_dues run k.number taken k.now c.args.frame) due (w run others))
    c.error.ensures.walk

pub returns-then-kind-eq-ERROR-clause-calm : goal.returns-then-kind-eq-ERROR-clause-calm
returns-then-kind-eq-ERROR-clause-calm c =
    let run : Run = run_of c.args.around.now in
    let k : Known = c.args.self.now in
    let taken : List ℕ = c.args.around.now.taken.now in
    let kind : kind_of c.args.frame ≡ 1 = sym c.kind-kind.ensures ∙ c.if-kind-eq-ERROR.true in
    let due : switch_dues run k.number taken k.now c.args.frame ≡ error_dues k.number k.now.armed c.args.frame (rejected_by c.args.frame k.now.unsettled) =
    due_error run k.number taken c.args.frame k.now (sym c.is_reply.ensures ∙ c.if-is_reply.false) kind in
    on_ok_weaker c.error.result
    (λ w. calm_as (error_dues k.number k.now.armed c.args.frame (rejected_by c.args.frame k.now.unsettled)) (switch_dues run k.number taken k.now c.args.frame) due w)
    c.error.ensures.calm

pub returns-then-kind-eq-ERROR-clause-outs : goal.returns-then-kind-eq-ERROR-clause-outs
returns-then-kind-eq-ERROR-clause-outs c =
    let run : Run = run_of c.args.around.now in
    let k : Known = c.args.self.now in
    let taken : List ℕ = c.args.around.now.taken.now in
    let kind : kind_of c.args.frame ≡ 1 = sym c.kind-kind.ensures ∙ c.if-kind-eq-ERROR.true in
    let due : switch_dues run k.number taken k.now c.args.frame ≡ error_dues k.number k.now.armed c.args.frame (rejected_by c.args.frame k.now.unsettled) =
    due_error run k.number taken c.args.frame k.now (sym c.is_reply.ensures ∙ c.if-is_reply.false) kind in
    on_ok_weaker c.error.result
    (λ w. steps_as k.number c.args.outs.now c.error.new.outs (error_dues k.number k.now.armed c.args.frame (rejected_by c.args.frame k.now.unsettled))
    (switch_dues run k.number taken k.now c.args.frame) due w)
    c.error.ensures.outs

pub returns-then-kind-eq-ERROR-clause-ended : goal.returns-then-kind-eq-ERROR-clause-ended
returns-then-kind-eq-ERROR-clause-ended c =
    let run : Run = run_of c.args.around.now in
    let k : Known = c.args.self.now in
    let taken : List ℕ = c.args.around.now.taken.now in
    let kind : kind_of c.args.frame ≡ 1 = sym c.kind-kind.ensures ∙ c.if-kind-eq-ERROR.true in
    let due : switch_dues run k.number taken k.now c.args.frame ≡ error_dues k.number k.now.armed c.args.frame (rejected_by c.args.frame k.now.unsettled) =
    due_error run k.number taken c.args.frame k.now (sym c.is_reply.ensures ∙ c.if-is_reply.false) kind in
    λ (why : Cause) e.
    let ends = c.error.ensures.ended why e in
    (due ∙ ends.0, ends.1)

pub returns-then-kind-eq-FLOW_REMOVED-clause-walk : goal.returns-then-kind-eq-FLOW_REMOVED-clause-walk
returns-then-kind-eq-FLOW_REMOVED-clause-walk c =
    let run : Run = run_of c.args.around.now in
    let k : Known = c.args.self.now in
    let taken : List ℕ = c.args.around.now.taken.now in
    let kind : kind_of c.args.frame ≡ 11 = sym c.kind-kind.ensures ∙ c.if-kind-eq-FLOW_REMOVED.true in
    let e19 : is_barrier_reply c.args.frame ≡ false = ap (λ (x : ℕ). x == 19) kind in
    let e1 : is_error c.args.frame ≡ false = ap (λ (x : ℕ). x == 1) kind in
    λ (others : List ℕ). walk_as run k c.removal.new.self (From_switch c.args.frame others) (Frame Controller c.args.frame ∷ []) (switch_dues run k.number taken k.now c.args.frame)
    (due_other run k.number taken c.args.frame k.now (sym c.is_reply.ensures ∙ c.if-is_reply.false) e19 e1 c.requires.no_return) (c.in_ok-removal.ensures.walk run others)

pub returns-then-kind-eq-FLOW_REMOVED-clause-calm : goal.returns-then-kind-eq-FLOW_REMOVED-clause-calm
returns-then-kind-eq-FLOW_REMOVED-clause-calm c =
    let run : Run = run_of c.args.around.now in
    let k : Known = c.args.self.now in
    let taken : List ℕ = c.args.around.now.taken.now in
    let kind : kind_of c.args.frame ≡ 11 = sym c.kind-kind.ensures ∙ c.if-kind-eq-FLOW_REMOVED.true in
    let e19 : is_barrier_reply c.args.frame ≡ false = ap (λ (x : ℕ). x == 19) kind in
    let e1 : is_error c.args.frame ≡ false = ap (λ (x : ℕ). x == 1) kind in
    calm_as (Frame Controller c.args.frame ∷ []) (switch_dues run k.number taken k.now c.args.frame)
    (due_other run k.number taken c.args.frame k.now (sym c.is_reply.ensures ∙ c.if-is_reply.false) e19 e1 c.requires.no_return) refl

pub returns-then-kind-eq-FLOW_REMOVED-clause-outs : goal.returns-then-kind-eq-FLOW_REMOVED-clause-outs
returns-then-kind-eq-FLOW_REMOVED-clause-outs c =
    let run : Run = run_of c.args.around.now in
    let k : Known = c.args.self.now in
    let taken : List ℕ = c.args.around.now.taken.now in
    let kind : kind_of c.args.frame ≡ 11 = sym c.kind-kind.ensures ∙ c.if-kind-eq-FLOW_REMOVED.true in
    let e19 : is_barrier_reply c.args.frame ≡ false = ap (λ (x : ℕ). x == 19) kind in
    let e1 : is_error c.args.frame ≡ false = ap (λ (x : ℕ). x == 1) kind in
    steps_as k.number c.args.outs.now c.removal.new.outs (Frame Controller c.args.frame ∷ []) (switch_dues run k.number taken k.now c.args.frame)
    (due_other run k.number taken c.args.frame k.now (sym c.is_reply.ensures ∙ c.if-is_reply.false) e19 e1 c.requires.no_return) c.in_ok-removal.ensures.outs

pub returns-clause-walk : goal.returns-clause-walk
returns-clause-walk c =
    let run : Run = run_of c.args.around.now in
    let k : Known = c.args.self.now in
    let taken : List ℕ = c.args.around.now.taken.now in
    let e19 : is_barrier_reply c.args.frame ≡ false = other_kind c.args.frame c.kind-kind.result 19 c.kind-kind.ensures c.if-kind-eq-BARRIER_REPLY.false in
    let e1 : is_error c.args.frame ≡ false = other_kind c.args.frame c.kind-kind.result 1 c.kind-kind.ensures c.if-kind-eq-ERROR.false in
    λ (others : List ℕ). walk_as run k c.pass_back.new.self (From_switch c.args.frame others) (Frame Controller c.args.frame ∷ []) (switch_dues run k.number taken k.now c.args.frame)
    (due_other run k.number taken c.args.frame k.now (sym c.is_reply.ensures ∙ c.if-is_reply.false) e19 e1 c.requires.no_return) (c.in_ok-pass_back.ensures.walk run others)

pub returns-clause-calm : goal.returns-clause-calm
returns-clause-calm c =
    let run : Run = run_of c.args.around.now in
    let k : Known = c.args.self.now in
    let taken : List ℕ = c.args.around.now.taken.now in
    let e19 : is_barrier_reply c.args.frame ≡ false = other_kind c.args.frame c.kind-kind.result 19 c.kind-kind.ensures c.if-kind-eq-BARRIER_REPLY.false in
    let e1 : is_error c.args.frame ≡ false = other_kind c.args.frame c.kind-kind.result 1 c.kind-kind.ensures c.if-kind-eq-ERROR.false in
    calm_as (Frame Controller c.args.frame ∷ []) (switch_dues run k.number taken k.now c.args.frame)
    (due_other run k.number taken c.args.frame k.now (sym c.is_reply.ensures ∙ c.if-is_reply.false) e19 e1 c.requires.no_return) refl

pub returns-clause-outs : goal.returns-clause-outs
returns-clause-outs c =
    let run : Run = run_of c.args.around.now in
    let k : Known = c.args.self.now in
    let taken : List ℕ = c.args.around.now.taken.now in
    let e19 : is_barrier_reply c.args.frame ≡ false = other_kind c.args.frame c.kind-kind.result 19 c.kind-kind.ensures c.if-kind-eq-BARRIER_REPLY.false in
    let e1 : is_error c.args.frame ≡ false = other_kind c.args.frame c.kind-kind.result 1 c.kind-kind.ensures c.if-kind-eq-ERROR.false in
    steps_as k.number c.args.outs.now c.pass_back.new.outs (Frame Controller c.args.frame ∷ []) (switch_dues run k.number taken k.now c.args.frame)
    (due_other run k.number taken c.args.frame k.now (sym c.is_reply.ensures ∙ c.if-is_reply.false) e19 e1 c.requires.no_return) c.in_ok-pass_back.ensures.outs
