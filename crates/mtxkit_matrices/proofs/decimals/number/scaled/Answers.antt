use Rattle.std.proofs.Common.{◌∙◌, ap, arith}
use Rattle.sparse_parser.specs.Grammar.{is_exponent}
use Rattle.mtxkit_matrices.proofs.DecimalValues.{number_exponent, places_few, IsFound, ok_value}
use Rattle.mtxkit_matrices.proofs.DecimalValues.{ok_refused, err_refused}
use Rattle.mtxkit_matrices.proofs.decimals.number.scaled.Goals as goal
use Rattle.mtxkit_matrices.proofs.decimals.number.scaled.Goals.{After-magnitude}

pub power-requires : goal.power-requires
power-requires c = ap is_exponent c.split_exponent.ensures.exponent
    ∙ number_exponent c.args.word.now c.requires

pub magnitude-requires-clause-behind : goal.magnitude-requires-clause-behind
magnitude-requires-clause-behind c =
    let l = places_few c.split_exponent.result.0.now in
    let p = c.places_behind-behind.ensures in
    omega arith

found : (c : After-magnitude)
    → IsFound c.args.scale c.args.word.now c.split_exponent.result.0.now
    c.split_exponent.result.1.now c.places_behind-behind.result c.power.result.is_negative
    c.power.result.size c.read_digits.result.part c.read_digits.result.zeros c.magnitude.result
found c = record {
  mantissa_is = c.split_exponent.ensures.mantissa;
  exponent_is = c.split_exponent.ensures.exponent;
  behind_is = c.places_behind-behind.ensures;
  power = c.power.ensures;
  digits = c.read_digits.ensures.number;
  value = c.magnitude.ensures.value;
  refused = c.magnitude.ensures.refused;
}

pub returns-in-Ok-clause-value : goal.returns-in-Ok-clause-value
returns-in-Ok-clause-value c =
    ok_value (found (goal.at.returns-in-Ok-clause-value c).After-magnitude) c.in-Ok.is
    c.starts_with_minus.ensures c.with_sign.result c.with_sign.ensures

pub returns-in-Ok-clause-refused : goal.returns-in-Ok-clause-refused
returns-in-Ok-clause-refused c =
    ok_refused (found (goal.at.returns-in-Ok-clause-refused c).After-magnitude) c.in-Ok.is
    c.starts_with_minus.ensures c.with_sign.result c.with_sign.ensures

pub returns-in-Err-clause-refused : goal.returns-in-Err-clause-refused
returns-in-Err-clause-refused c =
    err_refused (found (goal.at.returns-in-Err-clause-refused c).After-magnitude) c.in-Err.is
