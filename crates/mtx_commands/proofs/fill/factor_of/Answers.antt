use Rattle.std.proofs.Common.{rules}
use Rattle.mtx_commands.proofs.fill.factor_of.Goals as goal

-- written by tools/answer-goals
pub factor_triangle-requires : goal.factor_triangle-requires
factor_triangle-requires c = search rules

pub returns-clause-factor : goal.returns-clause-factor
returns-clause-factor c =
    let made = c.in_ok-factor_triangle.ensures in
    record {
      rows = rw made.input made.rows;
      columns = rw made.input made.columns;
      fill = rw made.input made.fill;
      valid = made.valid;
    }
