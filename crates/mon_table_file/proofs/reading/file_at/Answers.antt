use Rattle.std.proofs.lemmas.Result.{err_from_is_err_and}
use Rattle.mon_table_file.specs.Reading.{heading}
use Rattle.mon_table_file.specs.Sections.{LinksStop, RulesStop, IsBrokenFrom}
use Rattle.mon_table_file.proofs.Deciding.{tag_in_range}
use Rattle.mon_table_file.proofs.Faulting.{fault_from}
use Rattle.mon_table_file.proofs.Leaving.{links_broken, rules_broken, file_is}
use Rattle.mon_table_file.proofs.reading.file_at.Goals as goal

pub returns-in_err-links-clause-breaks : goal.returns-in_err-links-clause-breaks
returns-in_err-links-clause-breaks c =
    let h = heading c.in_ok-head.head in
    let p = err_from_is_err_and c.from_residual-in_err-links.result c.from_residual-in_err-links.ensures.1 in
    rw (p.1, p.2) (fault_from (LinksStop h.tag h.tags c.in_ok-head.linked.now) (IsBrokenFrom c.args.text.now) c.in_err-links.field-0.0
    (λ back stop. links_broken c.args.text.now h c.in_ok-head.linked.now back c.in_ok-head.ensures.found stop) c.in_err-links.ensures.stops)

pub returns-in_err-table-clause-breaks : goal.returns-in_err-table-clause-breaks
returns-in_err-table-clause-breaks c =
    let h = heading c.in_ok-head.head in
    let p = err_from_is_err_and c.from_residual-in_err-table.result c.from_residual-in_err-table.ensures.1 in
    rw (p.1, p.2) (fault_from (RulesStop h.second c.in_ok-links.ruled.now) (IsBrokenFrom c.args.text.now) c.in_err-table.field-0.0
    (λ back stop. rules_broken c.args.text.now h c.in_ok-head.linked.now c.in_ok-links.links c.in_ok-links.ruled.now back c.in_ok-head.ensures.found c.in_ok-links.ensures.found stop) c.in_err-table.ensures.stops)

pub invariant_of-view : goal.invariant_of-view
invariant_of-view c =
    let h = heading c.in_ok-head.head in
    let tags = c.in_ok-head.ensures.found.tags in
    let range = tag_in_range h.tags h.tag tags.vids tags.in_use in
    record { tag_low = range.0; tag_high = range.1; ascending = c.in_ok-links.ensures.found.links_are.ascending }

pub returns-clause-found : goal.returns-clause-found
returns-clause-found c =
    file_is c.args.text.now (heading c.in_ok-head.head) c.in_ok-head.linked.now c.in_ok-links.links c.in_ok-links.ruled.now c.in_ok-table.table c.in_ok-head.ensures.found c.in_ok-links.ensures.found c.in_ok-table.ensures.found
