use Rattle.std.proofs.Common.{IfSome, subst, ap, ◌∙◌, true, [], ◌∷◌}
use Rattle.mon_world.specs.declared.calls.Call.TheVariants.{Read}
use Rattle.mon_world.specs.Files.{with_more}
use Rattle.monocle.specs.Ending.{reads_of}
use Rattle.monocle.specs.Planning.{IsSpelled}
use Rattle.monocle.specs.Running.{WritesPrefix}
use Rattle.monocle.proofs.Calling.{called-behind, quiet-behind}
use Rattle.monocle.proofs.Ending.{reads-silent, checks-silent, certificates-end-at, check-written, check-want}
use Rattle.monocle.proofs.Judging.{gives-some, is-check, check-runs}
use Rattle.monocle.proofs.check.check.Goals as goal

pub returns-in-Err-certificates_of-clause-ended : goal.returns-in-Err-certificates_of-clause-ended
returns-in-Err-certificates_of-clause-ended g c =
    called-behind c.in-Ok.ensures.quiet c.in-Err-certificates_of.ensures.ended (reads-silent c.args.source.now)
    (certificates-end-at (g.D.Desk.files c.args.desk.now) (g.D.Desk.files c.table_of.new.desk) c.args.source.now c.args.certificates.now c.in-Err-certificates_of.status
    c.in-Ok.ensures.files (gives-some (g.D.Desk.files c.args.desk.now) c.args.source.now _ _ c.in-Ok.ensures.gives))

pub returns-in-Ok-judged-clause-run : goal.returns-in-Ok-judged-clause-run
returns-in-Ok-judged-clause-run g c =
    check-runs (g.D.Desk.files c.args.desk.now) c.args.source.now c.args.certificates.now c.in-Ok-judged.status c.put.result c.as_bytes.result.now
    (g.D.Desk.written c.args.desk.now) (g.D.Desk.written c.put.new.desk)
    (is-check (g.D.Desk.files c.args.desk.now) c.args.source.now c.args.certificates.now _ _ _ c.in-Ok-judged.status c.as_bytes.result.now
    c.in-Ok.ensures.gives
    (subst (λ told. IfSome told (λ files. IsSpelled files c.args.certificates.now c.in-Ok-certificates_of.read)) c.in-Ok.ensures.files c.in-Ok-certificates_of.ensures.found)
    c.in-Ok-judged.ensures.status (c.as_bytes.ensures.value ∙ c.in-Ok-judged.ensures.text))
    c.put.ensures.done
    (λ low. c.put.ensures.written low ∙ ap (with_more c.as_bytes.result.now) (c.in-Ok-certificates_of.ensures.written ∙ c.in-Ok.ensures.written))
    (λ six. subst (λ told. WritesPrefix c.as_bytes.result.now told (g.D.Desk.written c.put.new.desk)) (c.in-Ok-certificates_of.ensures.written ∙ c.in-Ok.ensures.written)
    (c.put.ensures.prefix six))

pub returns-in-Ok-judged-clause-ended : goal.returns-in-Ok-judged-clause-ended
returns-in-Ok-judged-clause-ended g c =
    called-behind
    (quiet-behind (reads_of c.args.source.now) (Read c.args.certificates.now true ∷ []) _ _ _ _ _ _ c.in-Ok.ensures.quiet c.in-Ok-certificates_of.ensures.quiet)
    c.put.ensures.ended (checks-silent c.args.source.now c.args.certificates.now)
    (check-written (g.D.Desk.files c.args.desk.now) c.args.source.now c.args.certificates.now c.in-Ok-judged.status c.put.result c.in-Ok-judged.ensures.low)

pub returns-clause-ended : goal.returns-clause-ended
returns-clause-ended g c =
    called-behind
    (quiet-behind (reads_of c.args.source.now) (Read c.args.certificates.now true ∷ []) _ _ _ _ _ _ c.in-Ok.ensures.quiet c.in-Ok-certificates_of.ensures.quiet)
    c.out_of_memory.ensures.called (checks-silent c.args.source.now c.args.certificates.now)
    (check-want (g.D.Desk.files c.args.desk.now) c.args.source.now c.args.certificates.now c.out_of_memory.result c.out_of_memory.ensures.status)
