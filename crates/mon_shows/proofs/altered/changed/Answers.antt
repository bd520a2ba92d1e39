use Rattle.std.proofs.Common.{sym, subst}
use Rattle.mon_table.specs.Tables.{IsTable}
use Rattle.mon_shows.specs.Separation.{made_unsure}
use Rattle.mon_shows.proofs.Undoing.{changed-in, table-changed, fit-changed}
use Rattle.mon_shows.proofs.altered.changed.Goals as goal

pub invariant_of-result : goal.invariant_of-result
invariant_of-result c =
    let comes = c.args.comes in
    let r = made_unsure c.args.unsure c.args.rule.now in
    let t = c.args.t.now in
    let is = changed-in comes r t c.place_of-place.result c.behind-next.result c.keeps.ensures.table c.keeps-2.ensures.normal c.place_of-place.ensures.value c.behind-next.ensures.value in (
      c.behind-next.ensures.least,
      c.behind-next.ensures.within,
      subst IsTable (sym is) (table-changed comes r t c.keeps-2.ensures.normal c.keeps.ensures.table),
      fit-changed comes r t _ is c.keeps-2.ensures.fit c.keeps.ensures.fit,
    )

pub returns : goal.returns
returns c =
    changed-in c.args.comes (made_unsure c.args.unsure c.args.rule.now) c.args.t.now c.place_of-place.result c.behind-next.result c.keeps.ensures.table c.keeps-2.ensures.normal c.place_of-place.ensures.value
    c.behind-next.ensures.value
