-- The scalar types of this crate: plain and wrapping integers, and patterns.
use Rattle.std.specs.Prelude.{ℤ, [], Ok, Err, FitsSigned, codes, refl}
use Rattle.std.specs.Int.{Width, int_wrapping_neg}
use Rattle.std.specs.Fmt.{signed_decimal}
use Rattle.std.proofs.Common.{inl, inr}
use lib.IntN.{neg_ℤ}
use Rattle.sparse_parser.specs.declared.error.MatrixMarketErrorKind.TheVariants.{TypeMismatch}
use Rattle.sparse_parser.specs.Scalars.{Scalar}
use Rattle.sparse_market_scalar.specs.IntegerTexts.{accepted, accepted_refuses, number_text}

-- plain integers, of which the least has no negative
abbrev pub signed_scalar : Width → Scalar
signed_scalar w = record {
  Value = ℤ;
  from_number = accepted w;
  from_pattern = Err TypeMismatch;
  negated = λ x. accepted w (neg_ℤ x);
  conjugated = λ x. Err TypeMismatch;
  name = codes "integer";
  text = signed_decimal;
  IsValue = FitsSigned w;
  number_refused = accepted_refuses w;
  pattern_refused = refl;
  negative_refused = λ x. accepted_refuses w (neg_ℤ x);
  read_back = inl (refl, number_text w);
}

-- wrapping integers, whose texts are in signed form
abbrev pub wrapping_scalar : Width → Scalar
wrapping_scalar w = record {
  Value = ℤ;
  from_number = accepted w;
  from_pattern = Err TypeMismatch;
  negated = λ x. Ok (int_wrapping_neg w x);
  conjugated = λ x. Err TypeMismatch;
  name = codes "integer";
  text = signed_decimal;
  IsValue = FitsSigned w;
  number_refused = accepted_refuses w;
  pattern_refused = refl;
  negative_refused = λ x. tt;
  read_back = inl (refl, number_text w);
}

-- patterns, whose only value has an empty text
abbrev pub pattern_scalar : Scalar
pattern_scalar = record {
  Value = Unit {0};
  from_number = λ z. Err TypeMismatch;
  from_pattern = Ok tt;
  negated = λ x. Err TypeMismatch;
  conjugated = λ x. Err TypeMismatch;
  name = codes "pattern";
  text = λ x. [];
  IsValue = λ x. Unit {0};
  number_refused = λ z. refl;
  pattern_refused = tt;
  negative_refused = λ x. refl;
  read_back = inr (refl, λ x own. (refl, refl));
}
