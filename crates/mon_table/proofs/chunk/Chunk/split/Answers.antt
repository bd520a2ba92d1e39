use Rattle.std.proofs.Common.{◌≡◌, ◌+◌, ◌≤◌, length, ap, ◌∙◌, arith}
use Rattle.std.specs.Prelude.{vec_len, vec_capacity}
use Rattle.mon_table.proofs.Chunking.{lower-half, upper-half, rejoined, chunk-again}
use Rattle.mon_table.proofs.chunk.Chunk.split.Goals as goal

pub invariant_of-upper : goal.invariant_of-upper
invariant_of-upper c =
    upper-half c.self.inside.cover c.self.inside.rules.items c.args.self.now c.in_ok-rules.rules.items c.in_ok-rules.ensures.tail c.self.view_is c.requires c.self.invariant.0

pub invariant_of-self-in-Ok : goal.invariant_of-self-in-Ok
invariant_of-self-in-Ok c =
    lower-half c.self.inside.cover c.self.inside.rules.items c.args.self.now c.split_off.new.self.items c.in_ok-rules.ensures.items c.self.view_is c.requires c.self.invariant.0

pub returns-in-Err-clause-same : goal.returns-in-Err-clause-same
returns-in-Err-clause-same c =
    let back = c.failed.inside.0.0.rules in
    let is : back.items ≡ c.in_ok-rules.rules.items = ap (λ x. x.value) c.failed.view_is ∙ c.in-Err.ensures.value_returned in
    let a = c.self.inside.rules.ok in
    let b = back.ok in
    let d = c.in_ok-rules.rules.ok in
    let same : length back.items ≡ length c.in_ok-rules.rules.items = ap length is in
    let room : vec_len c.split_off.new.self + vec_len back ≤ vec_capacity c.split_off.new.self = omega (arith, a.0, a.1, b.0, d.0, same, c.in_ok-rules.ensures.len, c.in_ok-rules.ensures.tail_len, c.in_ok-rules.ensures.capacity) in
    rejoined c.append.result c.self.inside.rules.items c.args.self.now c.split_off.new.self.items c.in_ok-rules.rules.items back.items c.append.new.self.items
    (c.append.ensures.succeeds room) c.in_ok-rules.ensures.items c.in_ok-rules.ensures.tail is c.append.ensures.items c.self.view_is

pub invariant_of-self-in-Err : goal.invariant_of-self-in-Err
invariant_of-self-in-Err c =
    let back = c.failed.inside.0.0.rules in
    let is : back.items ≡ c.in_ok-rules.rules.items = ap (λ x. x.value) c.failed.view_is ∙ c.in-Err.ensures.value_returned in
    let a = c.self.inside.rules.ok in
    let b = back.ok in
    let d = c.in_ok-rules.rules.ok in
    let same : length back.items ≡ length c.in_ok-rules.rules.items = ap length is in
    let room : vec_len c.split_off.new.self + vec_len back ≤ vec_capacity c.split_off.new.self = omega (arith, a.0, a.1, b.0, d.0, same, c.in_ok-rules.ensures.len, c.in_ok-rules.ensures.tail_len, c.in_ok-rules.ensures.capacity) in
    chunk-again c.self.inside.cover c.self.inside.rules.items c.args.self.now c.append.new.self.items
    (rejoined c.append.result c.self.inside.rules.items c.args.self.now c.split_off.new.self.items c.in_ok-rules.rules.items back.items c.append.new.self.items
    (c.append.ensures.succeeds room) c.in_ok-rules.ensures.items c.in_ok-rules.ensures.tail is c.append.ensures.items c.self.view_is)
    c.self.view_is c.self.invariant
