use Rattle.std.proofs.Common.{refl}
use Rattle.sparse_parser.specs.declared.error.Cause.TheVariants.{IndexTooLarge}
use Rattle.sparse_parser.proofs.IntegerWords.{index_digits}
use Rattle.sparse_parser.proofs.EntryLaws.{number_found}
use Rattle.sparse_parser.proofs.data_lines.Number.index.Goals as goal

pub returns : goal.returns
returns c = number_found c.args.self.now.word.now c.args.self.now.digits _ IndexTooLarge
    (index_digits _ _ _ c.requires.number c.requires.index) c.ok_or.ensures.value refl
