use Rattle.std.proofs.Common.{subst, sym, take, ◌+◌, ◌<◌, set, true, get_or, length}
use Rattle.mon_cdcl.specs.Seen.{Noted}
use Rattle.mon_cdcl.proofs.Noting.{noted_skip, noted_push, var_within, flag_read, blank}
use Rattle.mon_cdcl.proofs.seen.Seen.note.Goals as goal

pub loop-literal-preserved-then-var-but : goal.loop-literal-preserved-then-var-but
loop-literal-preserved-then-var-but c =
    noted_skip c.args.self.now.flags.items c.args.self.now.vars.items c.args.clause.now c.args.but c.loop-literal.literal-index blank c.loop-literal.self.flags.items c.loop-literal.self.vars.items c.loop-literal-test.true
    (λ n. absurd (n c.if-var-but.true)) c.loop-literal.invariant

pub loop-literal-preserved-then-index : goal.loop-literal-preserved-then-index
loop-literal-preserved-then-index c =
    let x = (get_or c.args.clause.now c.loop-literal.literal-index blank).var in
    let w : x < length c.loop-literal.self.flags.items =
    subst (λ n. x < n) (sym c.loop-literal.invariant.sized) (var_within (length c.args.self.now.flags.items) c.args.clause.now c.loop-literal.literal-index blank c.requires c.loop-literal-test.true) in
    noted_skip c.args.self.now.flags.items c.args.self.now.vars.items c.args.clause.now c.args.but c.loop-literal.literal-index blank c.loop-literal.self.flags.items c.loop-literal.self.vars.items c.loop-literal-test.true
    (λ n. flag_read c.loop-literal.self.flags.items x _ c.index.result.now w c.index.ensures c.if-index.true) c.loop-literal.invariant

pub loop-literal-preserved : goal.loop-literal-preserved
loop-literal-preserved c =
    let x = (get_or c.args.clause.now c.loop-literal.literal-index blank).var in
    let w : x < length c.loop-literal.self.flags.items =
    subst (λ n. x < n) (sym c.loop-literal.invariant.sized) (var_within (length c.args.self.now.flags.items) c.args.clause.now c.loop-literal.literal-index blank c.requires c.loop-literal-test.true) in
    subst (λ vs. Noted c.args.self.now.flags.items c.args.self.now.vars.items (take (c.loop-literal.literal-index + 1) c.args.clause.now) c.args.but (set c.loop-literal.self.flags.items x true) vs) (sym c.in_ok-push.ensures.items)
    (noted_push c.args.self.now.flags.items c.args.self.now.vars.items c.args.clause.now c.args.but c.loop-literal.literal-index blank c.loop-literal.self.flags.items c.loop-literal.self.vars.items c.loop-literal-test.true w
    c.if-var-but.false c.loop-literal.invariant)
