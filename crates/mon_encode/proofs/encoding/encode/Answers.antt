use Rattle.mon_cnf.specs.Truth.{values_of}
use Rattle.mon_encode.specs.Formulas.{encoded}
use Rattle.mon_encode.proofs.Bearing.{decoded-shows, encoded-satisfies, encoded-bears-header, winner-within}
use Rattle.mon_encode.proofs.encoding.encode.Goals as goal

pub formula-requires : goal.formula-requires
formula-requires c = winner-within c.args.j.now c.args.c.now c.keeps.ensures c.requires

pub returns-clause-sound : goal.returns-clause-sound
returns-clause-sound c = λ v f. decoded-shows c.args.j.now c.args.c.now v c.keeps-2.ensures c.keeps.ensures c.requires f

pub returns-clause-complete : goal.returns-clause-complete
returns-clause-complete c = λ h e y o. (
  values_of (encoded c.args.j.now h),
  encoded-satisfies c.args.j.now c.args.c.now h e c.keeps-2.ensures c.keeps.ensures c.requires y o,
  encoded-bears-header c.args.j.now c.args.c.now h e o,
)
