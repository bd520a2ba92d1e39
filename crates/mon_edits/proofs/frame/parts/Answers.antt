use Rattle.std.proofs.Common.{◌≡◌, ◌+◌, ◌<◌, ◌∷◌, length, drop, sym, ap, subst, ◌∙◌, arith}
use Rattle.std.specs.List.{AllByRecursion}
use Rattle.std.proofs.lemmas.List.{drop_more}
use Rattle.mon_table.specs.declared.edit.Edit.{Edit}
use Rattle.mon_edits.specs.Naming.{is_deletion}
use Rattle.mon_edits.specs.Frames.{is_cut}
use Rattle.mon_edits.proofs.Parts.{part-more}
use Rattle.mon_edits.proofs.frame.parts.Goals as goal

pub loop-edit-preserved : goal.loop-edit-preserved
loop-edit-preserved c =
    let edits = c.args.edits.now in
    let i = c.loop-edit.edit-index in
    let lt : i < length edits = omega arith in
    let split : drop i edits ≡ c.edit-item.result ∷ drop (i + 1) edits =
    drop_more edits i c.edit-item.result lt ∙ ap (λ (x : Edit). x ∷ drop (i + 1) edits) (sym c.edit-item.is) in
    record {
      pushed = part-more c.args.m.now c.loop-edit.first (drop i edits) (drop (i + 1) edits) c.edit-item.result c.in_ok-frame.frame c.loop-edit.frames c.push.new.self _
          split c.in_ok-frame.ensures c.in_ok-push.ensures.pushed c.loop-edit.invariant.pushed;
      kind = (subst (AllByRecursion (λ (x : Edit). is_cut x ≡ is_deletion c.args.m.now.command)) split c.loop-edit.invariant.kind).1;
    }
