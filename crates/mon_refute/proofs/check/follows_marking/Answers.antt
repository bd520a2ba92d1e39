use Rattle.std.proofs.Common.{arith, ◌∙◌, sym, subst, ◌++◌, ◌∷◌, ◌<◌, set, length}
use Rattle.std.specs.List.{flat_map}
use Rattle.mon_refute.specs.Marks.{Shows, ClearBut}
use Rattle.mon_refute.specs.Follow.{literals_of, hinted}
use Rattle.mon_refute.specs.declared.marks.Reading.TheVariants.{Contradicts, Gives}
use Rattle.mon_refute.proofs.Steps.{given, at_hint}
use Rattle.mon_refute.proofs.Shown.{shows_more}
use Rattle.mon_refute.proofs.Clearing.{hint_others, all_others}
use Rattle.mon_refute.proofs.check.follows_marking.Goals as goal

pub returns-in-Contradicts-clause-value : goal.returns-in-Contradicts-clause-value
returns-in-Contradicts-clause-value c =
    let i = c.loop-hint.invariant.known in
    let cs = c.args.cs.now ++ literals_of c.args.earlier.now in
    sym (i.2 ∙ at_hint cs i.0 c.items-hint-items.result.now c.loop-hint.hint-index Contradicts c.loop-hint-test.true (sym (c.read_at.ensures i.0 i.1) ∙ c.in-Contradicts.is))

pub bounds-marks-literal : goal.bounds-marks-literal
bounds-marks-literal c =
    let i = c.loop-hint.invariant.known in
    let cs = c.args.cs.now ++ literals_of c.args.earlier.now in
    let g = given (length c.args.marks.now) cs i.0 _ c.in-Gives.literal c.requires.within (sym (c.read_at.ensures i.0 i.1) ∙ c.in-Gives.is) in
    let w : c.in-Gives.literal.var < length c.args.marks.now = g.inside in
    omega arith

pub loop-hint-preserved : goal.loop-hint-preserved
loop-hint-preserved c =
    let i = c.loop-hint.invariant.known in
    let cs = c.args.cs.now ++ literals_of c.args.earlier.now in
    let r = sym (c.read_at.ensures i.0 i.1) ∙ c.in-Gives.is in
    let g = given (length c.args.marks.now) cs i.0 _ c.in-Gives.literal c.requires.within r in
    let w : c.in-Gives.literal.var < length c.args.marks.now = g.inside in
    let l = c.in-Gives.literal in
    record {
      known = (
        l ∷ i.0,
        subst (λ m. Shows (set c.loop-hint.marks l.var m) (l ∷ i.0)) (sym c.mark_of.ensures) (shows_more c.loop-hint.marks i.0 l i.1 (omega arith) g.undecided),
        i.2 ∙ at_hint cs i.0 c.items-hint-items.result.now c.loop-hint.hint-index (Gives l) c.loop-hint-test.true r,
      );
      others = hint_others cs c.args.line.now.literals i.0 c.items-hint-items.result.now c.loop-hint.marks c.loop-hint.hint-index _ l c.loop-hint-test.true r c.loop-hint.invariant.others;
    }

pub returns-in-Contradicts-clause-others : goal.returns-in-Contradicts-clause-others
returns-in-Contradicts-clause-others c = subst (λ hs. ClearBut (c.args.line.now.literals ++ flat_map (hinted (c.args.cs.now ++ literals_of c.args.earlier.now)) hs) c.loop-hint.marks) c.items-hint-items.ensures.value
    (all_others (c.args.cs.now ++ literals_of c.args.earlier.now) c.args.line.now.literals c.items-hint-items.result.now c.loop-hint.marks c.loop-hint.hint-index c.loop-hint.invariant.others)

pub returns-in-Neither-clause-others : goal.returns-in-Neither-clause-others
returns-in-Neither-clause-others c = subst (λ hs. ClearBut (c.args.line.now.literals ++ flat_map (hinted (c.args.cs.now ++ literals_of c.args.earlier.now)) hs) c.loop-hint.marks) c.items-hint-items.ensures.value
    (all_others (c.args.cs.now ++ literals_of c.args.earlier.now) c.args.line.now.literals c.items-hint-items.result.now c.loop-hint.marks c.loop-hint.hint-index c.loop-hint.invariant.others)
