use Rattle.std.proofs.Common.{◌∙◌, ◌≡◌, sym, ap, true, length, ◌++◌, take}
use Rattle.mon_refute.specs.Follow.{follows, literals_of}
use Rattle.mon_refute.proofs.Steps.{log_within, log_follows, log_ends}
use Rattle.mon_refute.proofs.check.is_accepted.Goals as goal

pub loop-i-preserved : goal.loop-i-preserved
loop-i-preserved c =
    let n = length c.args.marks.now in
    let cs = c.clauses-cs.result.now in
    let log = c.args.log.now in
    let i = c.loop-i.i in
    let l = c.index-log-i.result in
    let f : follows n (cs ++ literals_of (take i log)) l ≡ true = ap (λ m. follows m (cs ++ literals_of (take i log)) l) (sym (c.loop-i.auto.marks ∙ c.fill.ensures.len)) ∙ sym c.follows.ensures.value ∙ c.if-not-follows.false in
    record {
      clear = c.follows.ensures.clear;
      within = log_within n cs log i l c.loop-i-test.true c.index-log-i.is c.loop-i.invariant.within f;
      so_far = c.loop-i.invariant.so_far ∙ log_follows n cs log i l c.loop-i-test.true c.index-log-i.is f;
      last = log_ends log i l c.items.result.now c.is_empty-ends.result c.loop-i-test.true c.index-log-i.is c.items.ensures c.is_empty-ends.ensures;
    }
