use Rattle.mtxkit_patterns.proofs.LowerFactors.{lower_fill}
use Rattle.mtxkit_patterns.proofs.square.factor_of.Goals as goal

pub returns-clause-factor : goal.returns-clause-factor
returns-clause-factor c = rw c.into_l_pattern.ensures (record {
  valid = c.in_ok-factor.ensures.valid;
  columns = c.in_ok-factor.ensures.columns;
  rows = c.in_ok-factor.ensures.rows;
  fill = c.in_ok-factor.ensures.fill;
})

pub returns-clause-lower : goal.returns-clause-lower
returns-clause-lower c = rw c.into_l_pattern.ensures
    (lower_fill c.args.pattern c.in_ok-factor.factor.factor c.in_ok-factor.ensures.fill)
