use Rattle.std.proofs.Common.{sym, ◌∙◌}
use Rattle.sparse_parser.specs.InnerReading.{words_of}
use Rattle.mtxkit_texts.proofs.OneWords.{value_words, no_value_words}
use Rattle.mtxkit_texts.proofs.ones.value_text.Goals as goal

pub returns-then-are_values : goal.returns-then-are_values
returns-then-are_values c = sym (value_words c.args.field (words_of c.args.line.now)
    (sym c.are_values.ensures ∙ c.if-are_values.true))

pub returns-else-are_values : goal.returns-else-are_values
returns-else-are_values c = sym (no_value_words c.args.field (words_of c.args.line.now)
    (sym c.are_values.ensures ∙ c.if-are_values.false))
