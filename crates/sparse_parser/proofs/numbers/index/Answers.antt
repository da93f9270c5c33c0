use Rattle.sparse_parser.proofs.Digits.{index_number}
use Rattle.sparse_parser.proofs.numbers.index.Goals as goal

pub returns : goal.returns
returns c = index_number c.args.word.now _ c.requires c.leading_number-number.ensures.number
