use Rattle.std.specs.Prelude.{FitsSigned}
use Rattle.std.specs.Int.{w128}
use Rattle.std.specs.Str.Parse.{IsNumeral, signed_digits_value, without_leading_sign, ParsesSigned}
use Rattle.sparse_parser.proofs.Digits.{index-IsNumeral, integer-IsUtf8, some_iff, text_is}
use Rattle.sparse_parser.proofs.Digits.{no_fault}
use Rattle.sparse_parser.proofs.numbers.integer.Goals as goal

pub unwrap-requires : goal.unwrap-requires
unwrap-requires c = no_fault _ _ _ _ (integer-IsUtf8 c.args.word.now c.requires)
    c.from_utf8.ensures.cases

pub returns : goal.returns
returns c =
    let t = text_is c.args.word.now _ _ _ c.unwrap.ensures c.from_utf8.ensures.cases in
    let h : ParsesSigned w128 10 c.args.word.now c.parse.result =
    rw (← t) c.parse.ensures.value.0 in
    rw c.ok.ensures.value (some_iff c.parse.result
    (IsNumeral 10 (without_leading_sign c.args.word.now))
    (FitsSigned w128 (signed_digits_value 10 c.args.word.now))
    (signed_digits_value 10 c.args.word.now) h (index-IsNumeral _ c.requires))
