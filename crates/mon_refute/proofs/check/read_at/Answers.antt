use Rattle.std.proofs.Common.{◌∙◌, sym, ap, arith}
use Rattle.mon_refute.specs.Follow.{reading_of, literals_of}
use Rattle.mon_refute.proofs.Places.{named_later, named_beyond, within_front, within_later}
use Rattle.mon_refute.proofs.check.read_at.Goals as goal

pub read-requires-then-later-earlier : goal.read-requires-then-later-earlier
read-requires-then-later-earlier c = within_later _ c.args.earlier.now _ _ _ (within_front _ c.args.cs.now (literals_of c.args.earlier.now) c.requires) c.if-later-earlier.true c.items-then-later-earlier.ensures

pub returns-then-later-earlier : goal.returns-then-later-earlier
returns-then-later-earlier c known s =
    c.read-then-later-earlier.ensures known s
    ∙ sym (ap (reading_of known) (named_later c.args.cs.now c.args.earlier.now c.args.hint _ _ (omega arith) (omega arith) (omega arith) c.items-then-later-earlier.ensures))

pub returns : goal.returns
returns c known s = sym (ap (reading_of known) (named_beyond c.args.cs.now c.args.earlier.now c.args.hint (omega arith) (omega arith)))
