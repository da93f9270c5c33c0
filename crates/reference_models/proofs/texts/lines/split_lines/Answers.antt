use Rattle.std.proofs.Common.{rules}
use borrow.Author.Tests.{tests}
use Rattle.std.proofs.lemmas.Iterator.Consumers.{map_from_collect}
use Rattle.std.proofs.lemmas.Iterator.Splits.{YieldsList-from_slice_split}
use Rattle.sparse_parser.specs.Bytes.{is_line_end}
use Rattle.reference_models.proofs.texts.lines.split_lines.Goals as goal

pub returns : goal.returns
returns c = map_from_collect _ c.collect.ensures.ran
    (YieldsList-from_slice_split _ is_line_end c.args.text.now (cc) (cc) (cc)
    (λ x b q k. search (rules, tests)))
