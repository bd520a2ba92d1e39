use Rattle.std.proofs.Common.{sym, ◌∙◌}
use Rattle.mon_words.proofs.Numbers.{number_found, no_number, other_number, tested}
use Rattle.mon_words.proofs.options.number_of.Goals as goal

pub returns-then-is_number : goal.returns-then-is_number
returns-then-is_number c =
    let p = tested _ _ _ (sym c.is_number.ensures ∙ c.if-is_number.true) in sym (number_found _ _ _ p.0 p.1)

pub returns-else-is_number : goal.returns-else-is_number
returns-else-is_number c =
    other_number c.args.kind c.args.text.now c.parse.result c.in-Ok.n c.in-Ok.is c.parse.ensures.value.0 (sym c.is_number.ensures ∙ c.if-is_number.false)

pub returns-in-Err : goal.returns-in-Err
returns-in-Err c = no_number c.args.kind c.args.text.now c.parse.result _ c.in-Err.is c.parse.ensures.value.0
