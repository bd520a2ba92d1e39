use Rattle.mon_words.proofs.Parts.{split_is_parts}
use Rattle.mon_words.proofs.options.parts_of.Goals as goal

pub returns : goal.returns
returns c = split_is_parts c.args.word.now c.split_once.result c.split_once.ensures.cases
