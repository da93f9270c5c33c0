use Rattle.std.proofs.Common.{◌≡◌, false, sym, ap, ◌∙◌}
use Rattle.sparse_parser.specs.Bytes.{leading}
use Rattle.sparse_parser.specs.InnerBytes.{is_solid}
use Rattle.sparse_parser.specs.Grammar.{is_integer}
use Rattle.sparse_parser.specs.InnerReading.{line_words}
use Rattle.sparse_parser.proofs.FirstWord.{other_word}
use Rattle.sparse_parser.proofs.IntegerWords.{other_is}
use Rattle.sparse_parser.proofs.data_lines.other_number.Goals as goal

pub returns-then-not-is_number : goal.returns-then-not-is_number
returns-then-not-is_number c =
    let w = other_word c.args.text.now _ _ c.requires.start c.split_solid.ensures.word
    c.split_solid.ensures.rest in (
      c.split_solid.result.0.now,
      line_words c.split_solid.result.1.now,
      w.words,
      sym c.is_number.ensures ∙ c.if-not-is_number.true,
    )

pub returns : goal.returns
returns c =
    let n = sym c.is_number.ensures ∙ c.if-not-is_number.false in
    let f : c.split_solid.result.0.now ≡ leading is_solid c.args.text.now =
    c.split_solid.ensures.word in
    let i : is_integer c.split_solid.result.0.now ≡ false = ap is_integer f
    ∙ c.requires.no_integer in (
      other_is c.split_solid.result.0.now n i,
      other_word c.args.text.now _ _ c.requires.start f
          c.split_solid.ensures.rest,
    )
