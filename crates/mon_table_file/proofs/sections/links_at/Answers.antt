use Rattle.std.proofs.Common.{◌≡◌, ◌<◌, ◌≤◌, ◌+◌, sym, rules}
use Rattle.mon_table_file.specs.Lines.{link_line, FitsNear}
use Rattle.mon_table_file.specs.Reading.{link_in}
use Rattle.mon_table_file.proofs.LineReaders.{reader_link, link_some}
use Rattle.mon_table_file.proofs.SoFar.{shorter}
use Rattle.mon_table_file.proofs.Linking.{low_port, wrong_tag, one_link}
use Rattle.mon_table_file.proofs.sections.links_at.Goals as goal

pub returns-then-from-least-clause-stops : goal.returns-then-from-least-clause-stops
returns-then-from-least-clause-stops c =
    let low : c.in-Some.near.port < c.loop-near.least = search rules in
    low_port c.args.head.now.tag c.args.head.now.tags c.args.text.now c.loop-near.links c.loop-near.least c.loop-near.rest.now c.loop-near.invariant c.in-Some.near c.in-Some.after.now (sym c.in-Some.ensures) low

pub returns-then-not-has_other_tag-clause-stops : goal.returns-then-not-has_other_tag-clause-stops
returns-then-not-has_other_tag-clause-stops c =
    wrong_tag c.args.head.now.tag c.args.head.now.tags c.args.text.now c.loop-near.links c.loop-near.least c.loop-near.rest.now c.loop-near.invariant c.in-Some.near c.in-Some.after.now (sym c.in-Some.ensures)
    c.items.result.now c.items.ensures.value (sym c.if-not-has_other_tag.ensures)

pub loop-near-smaller : goal.loop-near-smaller
loop-near-smaller c = shorter link_line FitsNear link_in reader_link link_some c.loop-near.rest.now c.in-Some.after.now c.in-Some.near (sym c.in-Some.ensures)

pub loop-near-preserved : goal.loop-near-preserved
loop-near-preserved c =
    let least : c.loop-near.least ≤ c.in-Some.near.port = search rules in
    let next : c.from-least.result + 1 ≡ c.in-Some.near.port + 1 = search rules in
    one_link c.args.head.now.tag c.args.head.now.tags c.args.text.now c.loop-near.links c.loop-near.least c.loop-near.rest.now c.loop-near.invariant c.in-Some.near c.in-Some.after.now (sym c.in-Some.ensures)
    c.items.result.now c.push.new.self (c.from-least.result + 1) least c.items.ensures.value (sym c.if-not-has_other_tag.ensures) c.in_ok-push.ensures.pushed next
