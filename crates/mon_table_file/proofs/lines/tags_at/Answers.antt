use Rattle.std.proofs.Common.{ℕ, List, ap, ◌∙◌, ◌≡◌, ◌++◌, ◌∷◌, [], ◌-◌, ◌+◌, rules}
use Rattle.mon_text.proofs.Pairs.{onto}
use Rattle.mon_table_file.specs.Reading.{tags_in}
use Rattle.mon_table_file.proofs.Tagging.{tags_start, tags_end, tags_none, tags_more, tags_all}
use Rattle.mon_table_file.proofs.lines.tags_at.Goals as goal

pub loop-init : goal.loop-init
loop-init c = ap (λ (tags : List ℕ). onto tags (tags_in 65 c.args.text.now)) c.new-tags.ensures.items ∙ tags_start c.args.text.now

pub returns-in-Some : goal.returns-in-Some
returns-in-Some c = tags_end c.loop.tags.items c.loop.rest.now c.loop.counter _ c.loop-test.true c.loop.invariant c.in-Some.after.now c.in-Some.ensures.value

pub returns-in_default-tag_at : goal.returns-in_default-tag_at
returns-in_default-tag_at c = tags_none c.loop.tags.items c.loop.rest.now c.loop.counter _ c.loop-test.true c.loop.invariant c.in_default.ensures.value c.in_default-tag_at.ensures

pub loop-preserved : goal.loop-preserved
loop-preserved c =
    let grown : c.push.new.self.items ≡ c.loop.tags.items ++ c.in-Some-tag_at.tag ∷ [] = search rules in
    ap (λ (tags : List ℕ). onto tags (tags_in (65 - (c.loop.counter + 1)) c.in-Some-tag_at.after.now)) grown
    ∙ tags_more c.loop.tags.items c.loop.rest.now c.loop.counter _ c.loop-test.true c.loop.invariant c.in-Some-tag_at.after.now c.in-Some-tag_at.tag c.in_default.ensures.value c.in-Some-tag_at.ensures

pub returns : goal.returns
returns c = tags_all c.loop.tags.items c.loop.rest.now c.loop.counter _ c.loop-test.false c.loop.invariant
