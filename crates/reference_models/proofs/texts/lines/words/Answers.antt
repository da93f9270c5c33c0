use Rattle.std.proofs.Common.{rules}
use borrow.Author.Tests.{tests}
use Rattle.std.proofs.lemmas.Iterator.Consumers.{map_from_collect, YieldsList-from_filter}
use Rattle.std.proofs.lemmas.Iterator.Splits.{YieldsList-from_slice_split}
use Rattle.sparse_parser.specs.Bytes.{is_blank}
use Rattle.sparse_parser.specs.Words.{is_some_word}
use Rattle.sparse_parser.specs.InnerReading.{words_of}
use Rattle.reference_models.proofs.texts.lines.words.Goals as goal

pub returns : goal.returns
unfolding words_of
returns c = map_from_collect _ c.collect.ensures.ran
    (YieldsList-from_filter _ is_some_word (YieldsList-from_slice_split _ is_blank c.args.line.now
    (cc) (cc) (cc) (λ x b q k. search (rules, tests))) c.filter.ensures.closure
    (λ x b q k. search rules))
