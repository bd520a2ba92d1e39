use Rattle.std.proofs.Common.{◌∙◌, List, ap, length, refl}
use Rattle.mon_table.specs.Chunks.{Shared, chunk_at}
use Rattle.mon_table.proofs.Parting.{place-next, on-upper}
use Rattle.mon_table.proofs.chunks.insert_at.Goals as goal

pub returns-then-place-len-clause-rules : goal.returns-then-place-len-clause-rules
returns-then-place-len-clause-rules c =
    let cs = c.args.chunks.now.items in
    on-upper c.insert_chunk-then-place-len.result cs cs c.insert_chunk-then-place-len.new.chunks.items _ _ c.args.rule refl
    (place-next cs c.args.at c.args.place c.requires.chunk (c.if-place-len.true ∙ (c.len_at-len.ensures.len ∙ ap (λ (xs : List Shared). length (chunk_at xs c.args.at)) c.deref.ensures.value))) c.insert_chunk-then-place-len.ensures.rules
