use Rattle.std.proofs.Common.{◌≡◌, ◌∙◌, List, length, set, subst, ap, add-one}
use Rattle.mon_table.specs.declared.rule.Rule.{Rule}
use Rattle.mon_table.specs.Chunks.{Shared, rules_of}
use Rattle.mon_table.proofs.Parting.{changed-is, moved-read, same-rules, made-halved, split-rules, split-lower, split-upper, split-some}
use Rattle.mon_table.proofs.chunks.split_at.Goals as goal

pub split-requires : goal.split-requires
split-requires c =
    let cs = c.args.chunks.now.items in
    let h = moved-read cs c.reserve.new.self.items c.args.at c.index_mut.result.now c.in_ok-reserve.ensures.items c.requires.chunk c.index_mut.ensures.value in
    subst (λ (t : List Rule). length t ≡ 64) (changed-is cs c.args.at c.index_mut.result.now h) c.requires.full

pub returns-in_err-upper-clause-rules : goal.returns-in_err-upper-clause-rules
returns-in_err-upper-clause-rules c =
    let cs = c.args.chunks.now.items in
    let h = moved-read cs c.reserve.new.self.items c.args.at c.index_mut.result.now c.in_ok-reserve.ensures.items c.requires.chunk c.index_mut.ensures.value in
    ap (λ (xs : List Shared). rules_of (set xs c.args.at c.split.new.shared)) c.in_ok-reserve.ensures.items
    ∙ same-rules cs c.args.at c.index_mut.result.now c.split.new.shared h c.in_err-upper.ensures.same

pub returns-clause-rules : goal.returns-clause-rules
returns-clause-rules c =
    let cs = c.args.chunks.now.items in
    let h = moved-read cs c.reserve.new.self.items c.args.at c.index_mut.result.now c.in_ok-reserve.ensures.items c.requires.chunk c.index_mut.ensures.value in
    let is = made-halved cs c.reserve.new.self.items c.insert_reserved.new.chunks.items c.args.at _ c.split.new.shared c.in_ok-upper.upper c.in_ok-reserve.ensures.items c.requires.chunk (add-one c.args.at) c.insert_reserved.ensures in
    split-rules cs c.insert_reserved.new.chunks.items c.args.at c.index_mut.result.now c.split.new.shared c.in_ok-upper.upper h is c.in_ok-upper.ensures.lower c.in_ok-upper.ensures.upper

pub returns-clause-lower : goal.returns-clause-lower
returns-clause-lower c =
    let cs = c.args.chunks.now.items in
    let h = moved-read cs c.reserve.new.self.items c.args.at c.index_mut.result.now c.in_ok-reserve.ensures.items c.requires.chunk c.index_mut.ensures.value in
    let is = made-halved cs c.reserve.new.self.items c.insert_reserved.new.chunks.items c.args.at _ c.split.new.shared c.in_ok-upper.upper c.in_ok-reserve.ensures.items c.requires.chunk (add-one c.args.at) c.insert_reserved.ensures in
    split-lower cs c.insert_reserved.new.chunks.items c.args.at c.index_mut.result.now c.split.new.shared c.in_ok-upper.upper h is c.in_ok-upper.ensures.lower c.in_ok-upper.ensures.upper

pub returns-clause-upper : goal.returns-clause-upper
returns-clause-upper c =
    let cs = c.args.chunks.now.items in
    let h = moved-read cs c.reserve.new.self.items c.args.at c.index_mut.result.now c.in_ok-reserve.ensures.items c.requires.chunk c.index_mut.ensures.value in
    let is = made-halved cs c.reserve.new.self.items c.insert_reserved.new.chunks.items c.args.at _ c.split.new.shared c.in_ok-upper.upper c.in_ok-reserve.ensures.items c.requires.chunk (add-one c.args.at) c.insert_reserved.ensures in
    split-upper cs c.insert_reserved.new.chunks.items c.args.at c.index_mut.result.now c.split.new.shared c.in_ok-upper.upper h is c.in_ok-upper.ensures.lower c.in_ok-upper.ensures.upper

pub returns-clause-none_empty : goal.returns-clause-none_empty
returns-clause-none_empty c =
    let cs = c.args.chunks.now.items in
    let h = moved-read cs c.reserve.new.self.items c.args.at c.index_mut.result.now c.in_ok-reserve.ensures.items c.requires.chunk c.index_mut.ensures.value in
    let is = made-halved cs c.reserve.new.self.items c.insert_reserved.new.chunks.items c.args.at _ c.split.new.shared c.in_ok-upper.upper c.in_ok-reserve.ensures.items c.requires.chunk (add-one c.args.at) c.insert_reserved.ensures in
    split-some cs c.insert_reserved.new.chunks.items c.args.at c.index_mut.result.now c.split.new.shared c.in_ok-upper.upper h is c.in_ok-upper.ensures.lower c.in_ok-upper.ensures.upper c.requires.full c.requires.none_empty
