use Rattle.std.proofs.Common.{string_bytes, sym, ◌∙◌}
use Rattle.sparse_parser.specs.InnerReading.{words_of}
use Rattle.mtxkit_texts.specs.Ones.{copy_of}
use Rattle.mtxkit_texts.proofs.OneWords.{appended, few_words, other_words, place_words}
use Rattle.mtxkit_texts.proofs.ones.push_coordinate.Goals as goal

pub returns-in_default : goal.returns-in_default
returns-in_default c =
    rw (few_words c.args.field (words_of c.args.line.now) c.in_default.ensures)
    c.in_ok-push_str.ensures.bytes

pub returns-then-not-are_values : goal.returns-then-not-are_values
returns-then-not-are_values c =
    rw (other_words c.args.field (words_of c.args.line.now) _ _ _ c.in-Some.ensures
    (sym c.are_values.ensures ∙ c.if-not-are_values.true)) c.in_ok-push_str-2.ensures.bytes

pub returns : goal.returns
returns c =
    rw (place_words c.args.field (words_of c.args.line.now) _ _ _ c.in-Some.ensures
    (sym c.are_values.ensures ∙ c.if-not-are_values.false))
    (appended (string_bytes c.args.ones.now) (copy_of c.in-Some.place.row.now)
    (copy_of c.in-Some.place.col.now) c.in_ok-push_word.ensures c.in_ok-push_word-2.ensures
    c.in_ok-push_str-3.ensures.bytes)
