use Rattle.std.proofs.Common.{◌≡◌, ◌∙◌, ◌+◌, ◌∷◌, ℕ, List, Err, drop, ap, sym, subst}
use Rattle.mon_text.specs.Faults.{OnBadAt}
use Rattle.mon_trace.specs.Grammar.{Lines, Records, lines_of}
use Rattle.mon_trace.specs.Reading.{records_of}
use Rattle.mon_trace.specs.SoFar.{with_lines}
use Rattle.mon_trace.proofs.grammar.read_records.Goals as goal

pub returns-in-Err : goal.returns-in-Err
returns-in-Err c =
    let next = lines_of (drop (c.in-Some.end + 1) c.loop-rest.rest.now) in
    let is : with_lines c.loop-rest.reading (c.before-in-loop-rest.result.now ∷ next.ended) next.rest ≡ records_of c.args.offset 0 0 c.args.text.now =
    ap (λ (line : List ℕ). with_lines c.loop-rest.reading (line ∷ next.ended) next.rest) c.before-in-loop-rest.ensures
    ∙ ap (λ (lines : Lines). with_lines c.loop-rest.reading lines.ended lines.rest) (sym c.in-Some.ensures.1)
    ∙ c.loop-rest.invariant.0 in
    subst (λ (r : Records). OnBadAt c.in-Err.fault (λ offset. r ≡ Err offset)) is (c.in-Err.ensures.value next.ended next.rest)
