use Rattle.std.proofs.Common.{◌≢◌, length, sym, ◌∙◌, arith}
use Rattle.std.proofs.lemmas.Bool.{eqb-true, eqb-false}
use Rattle.sparse_parser.proofs.WordLaws.{no_word, first_word}
use Rattle.sparse_parser.proofs.lines.next_word.Goals as goal

pub returns-then-is_empty : goal.returns-then-is_empty
returns-then-is_empty c = no_word _ _ c.after_blanks-line.ensures
    (eqb-true _ _ (sym c.is_empty.ensures ∙ c.if-is_empty.true))

pub returns : goal.returns
returns c =
    let some : length c.after_blanks-line.result.now ≢ 0 =
    eqb-false _ _ (sym c.is_empty.ensures ∙ c.if-is_empty.false) in
    first_word _ _ _ _ c.after_blanks-line.ensures (omega arith) c.split_word.ensures.word
    c.split_word.ensures.rest
