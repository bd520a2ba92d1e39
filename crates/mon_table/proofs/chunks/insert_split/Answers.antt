use Rattle.std.proofs.Common.{◌≡◌, ◌+◌, ℕ, suc, length, ap, ◌∙◌, add-one, arith}
use Rattle.mon_table.specs.Chunks.{chunk_at}
use Rattle.mon_table.proofs.Parting.{lower-length, upper-length, place-upper, on-upper}
use Rattle.mon_table.proofs.chunks.insert_split.Goals as goal

pub insert_within-requires-clause-place : goal.insert_within-requires-clause-place
insert_within-requires-clause-place c =
    let l = lower-length (chunk_at c.args.chunks.now.items c.args.at) (chunk_at c.split_at.new.chunks.items c.args.at) c.in_ok-split_at.ensures.lower c.requires.full in
    omega (arith, l, c.if-place.true)

pub insert_within-requires-clause-room : goal.insert_within-requires-clause-room
insert_within-requires-clause-room c =
    let l = lower-length (chunk_at c.args.chunks.now.items c.args.at) (chunk_at c.split_at.new.chunks.items c.args.at) c.in_ok-split_at.ensures.lower c.requires.full in
    omega (arith, l)

pub insert_within-requires-2-clause-place : goal.insert_within-requires-2-clause-place
insert_within-requires-2-clause-place c =
    let l = upper-length (chunk_at c.args.chunks.now.items c.args.at) (chunk_at c.split_at.new.chunks.items (suc c.args.at)) c.in_ok-split_at.ensures.upper c.requires.full in
    let e : length (chunk_at c.split_at.new.chunks.items (c.args.at + 1)) ≡ 32 = ap (λ (k : ℕ). length (chunk_at c.split_at.new.chunks.items k)) (add-one c.args.at) ∙ l in
    omega (arith, e, c.requires.full, c.requires.place)

pub insert_within-requires-2-clause-room : goal.insert_within-requires-2-clause-room
insert_within-requires-2-clause-room c =
    let l = upper-length (chunk_at c.args.chunks.now.items c.args.at) (chunk_at c.split_at.new.chunks.items (suc c.args.at)) c.in_ok-split_at.ensures.upper c.requires.full in
    let e : length (chunk_at c.split_at.new.chunks.items (c.args.at + 1)) ≡ 32 = ap (λ (k : ℕ). length (chunk_at c.split_at.new.chunks.items k)) (add-one c.args.at) ∙ l in
    omega (arith, e)

pub returns-clause-rules : goal.returns-clause-rules
returns-clause-rules c =
    let cs = c.args.chunks.now.items in
    let ds = c.split_at.new.chunks.items in
    let l = lower-length (chunk_at cs c.args.at) (chunk_at ds c.args.at) c.in_ok-split_at.ensures.lower c.requires.full in
    on-upper c.insert_within-2.result cs ds c.insert_within-2.new.chunks.items _ _ c.args.rule c.in_ok-split_at.ensures.rules
    (place-upper cs ds c.args.at c.args.place c.in_ok-split_at.ensures.before c.in_ok-split_at.ensures.more l (omega (arith, c.if-place.false))) c.insert_within-2.ensures.rules
