use Rattle.mon_table_file.proofs.Leaving.{name_broken, switch_broken, tags_broken, miss_broken, head_is}
use Rattle.mon_table_file.proofs.sections.head_at.Goals as goal

pub returns-in_default-clause-breaks : goal.returns-in_default-clause-breaks
returns-in_default-clause-breaks c = name_broken c.args.text.now c.in_default.ensures

pub returns-in_default-switch_at-clause-breaks : goal.returns-in_default-switch_at-clause-breaks
returns-in_default-switch_at-clause-breaks c = switch_broken c.args.text.now c.in-Some.named.now c.in-Some.second c.in-Some.ensures c.in_default-switch_at.ensures

pub returns-in_default-2-clause-breaks : goal.returns-in_default-2-clause-breaks
returns-in_default-2-clause-breaks c =
    tags_broken c.args.text.now c.in-Some.named.now c.in-Some-switch_at.switched.now c.in-Some.second c.in-Some-switch_at.switch c.in-Some-switch_at.tag c.in-Some.ensures c.in-Some-switch_at.ensures
    (rw c.in_default-2.is at c.in_ok-tags.ensures)

pub returns-in_default-miss_at-clause-breaks : goal.returns-in_default-miss_at-clause-breaks
returns-in_default-miss_at-clause-breaks c =
    let tags = rw c.in-Some-2.is at c.in_ok-tags.ensures in
    miss_broken c.args.text.now c.in-Some.named.now c.in-Some-switch_at.switched.now c.in-Some-2.tagged.now c.in-Some.second c.in-Some-switch_at.switch c.in-Some-switch_at.tag c.in-Some-2.tags
    c.in-Some.ensures c.in-Some-switch_at.ensures tags.0 tags.1 c.in_default-miss_at.ensures

pub returns-clause-found : goal.returns-clause-found
returns-clause-found c =
    let tags = rw c.in-Some-2.is at c.in_ok-tags.ensures in
    head_is c.args.text.now c.in-Some.named.now c.in-Some-switch_at.switched.now c.in-Some-2.tagged.now c.in-Some-miss_at.rest.now c.in-Some.second c.in-Some-switch_at.switch c.in-Some-switch_at.tag c.in-Some-2.tags c.in-Some-miss_at.miss
    c.in-Some.ensures c.in-Some-switch_at.ensures tags.0 tags.1 c.in-Some-miss_at.ensures
