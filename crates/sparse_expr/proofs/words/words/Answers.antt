use Rattle.std.proofs.Common.{rules}
use Rattle.std.proofs.lemmas.Iterator.Consumers.{map_from_collect, YieldsList-from_filter}
use Rattle.std.proofs.lemmas.Iterator.Splits.{YieldsList-from_slice_split}
use Rattle.sparse_expr.specs.PostfixWords.{is_separator}
use Rattle.sparse_parser.specs.Words.{is_some_word}
use Rattle.sparse_expr.proofs.words.words.Goals as goal

pub returns : goal.returns
returns c = map_from_collect _ c.collect.ensures.ran
    (YieldsList-from_filter _ is_some_word (YieldsList-from_slice_split _ is_separator c.args.text.now
    (cc) (cc) (cc) (λ x b q k. search rules)) c.filter.ensures.closure (λ x b q k. search rules))
