use Rattle.std.proofs.Common.{◌≡◌, ◌∙◌, List, ap, sym, add-one}
use Rattle.mon_table.specs.declared.rule.Rule.{Rule}
use Rattle.mon_table_file.specs.Generator.{rule_from, number_of, added, generated}
use Rattle.mon_table_file.proofs.Apart.{put-added}
use Rattle.mon_table_file.proofs.generator.generate.Goals as goal

pub loop-place-preserved : goal.loop-place-preserved
loop-place-preserved c =
    let place = c.loop-place.place in
    let seed = c.args.seed in
    let rule : c.in_ok-rule.rule ≡ rule_from (number_of seed place) = c.in_ok-rule.ensures ∙ ap rule_from c.number_of.ensures.value in
    put-added c.loop-place.table c.put.new.self c.in_ok-rule.rule c.in_ok-put.ensures.put
    ∙ ap (added c.loop-place.table) rule
    ∙ ap (λ (t : List Rule). added t (rule_from (number_of seed place))) c.loop-place.invariant
    ∙ ap (generated seed) (sym (add-one place))
