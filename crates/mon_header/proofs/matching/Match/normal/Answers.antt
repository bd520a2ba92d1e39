use Rattle.mon_header.proofs.Keeping.{kept-is-normal, kept-is-value}
use Rattle.mon_header.proofs.matching.Match.normal.Goals as goal

pub invariant_of-result : goal.invariant_of-result
invariant_of-result c = kept-is-normal _ _ _ c.unpack-wild.ensures.src c.unpack-wild.ensures.dst c.kept_fields-fields.ensures.value c.kept_fields-fields.ensures.range

pub returns-clause-value : goal.returns-clause-value
returns-clause-value c = kept-is-value _ _ _ _ c.unpack-wild.ensures.value c.kept_fields-fields.ensures.value

pub returns-clause-normal : goal.returns-clause-normal
returns-clause-normal c = kept-is-normal _ _ _ c.unpack-wild.ensures.src c.unpack-wild.ensures.dst c.kept_fields-fields.ensures.value c.kept_fields-fields.ensures.range
