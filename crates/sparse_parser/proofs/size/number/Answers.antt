use Rattle.std.proofs.Common.{refl}
use Rattle.sparse_parser.specs.declared.error.Cause.TheVariants.{SizeTooLarge}
use Rattle.sparse_parser.proofs.EntryLaws.{number_found}
use Rattle.sparse_parser.proofs.size.number.Goals as goal

pub returns : goal.returns
returns c = number_found c.args.word.now _ _ SizeTooLarge c.index.ensures c.ok_or.ensures.value refl
