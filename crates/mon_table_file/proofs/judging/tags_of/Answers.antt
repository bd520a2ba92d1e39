use Rattle.std.proofs.Common.{◌≡◌, Some}
use Rattle.mon_table_file.specs.Reading.{tags_line_in}
use Rattle.mon_table_file.proofs.TagLines.{no_tags, not_own, no_vids, tags_found}
use Rattle.mon_table_file.proofs.judging.tags_of.Goals as goal

pub returns-in_default : goal.returns-in_default
returns-in_default c = no_tags c.args.tag c.args.text.now (rw c.in_default.is at c.in_ok-tags.ensures)

pub returns-then-not-is_in_use : goal.returns-then-not-is_in_use
returns-then-not-is_in_use c =
    let read : Some (c.in-Some.tags.items, c.in-Some.rest.now) ≡ tags_line_in c.args.text.now = rw c.in-Some.is at c.in_ok-tags.ensures in
    not_own c.args.tag c.args.text.now c.in-Some.tags.items c.in-Some.rest.now c.deref.result.now read c.deref.ensures.value c.if-not-is_in_use.ensures

pub returns-in-Some-2 : goal.returns-in-Some-2
returns-in-Some-2 c =
    let read : Some (c.in-Some.tags.items, c.in-Some.rest.now) ≡ tags_line_in c.args.text.now = rw c.in-Some.is at c.in_ok-tags.ensures in
    let vids = rw c.in-Some-2.is at c.in_ok-vids.ensures in
    tags_found c.args.tag c.args.text.now c.in-Some.tags.items c.in-Some.rest.now c.deref.result.now read c.deref.ensures.value c.in-Some-2.vids c.deref-2.result.now c.deref-2.ensures.value vids.0 vids.1 c.if-not-is_in_use.ensures

pub returns : goal.returns
returns c =
    let read : Some (c.in-Some.tags.items, c.in-Some.rest.now) ≡ tags_line_in c.args.text.now = rw c.in-Some.is at c.in_ok-tags.ensures in
    no_vids c.args.tag c.args.text.now c.in-Some.tags.items c.in-Some.rest.now c.deref-2.result.now read c.deref-2.ensures.value (rw c.in-None.is at c.in_ok-vids.ensures)
