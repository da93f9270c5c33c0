use Rattle.std.proofs.Common.{sym, subst, ◌∙◌}
use Rattle.std.proofs.lemmas.Int.{to_z-of_z}
use Rattle.std.specs.Int.{w32}
use Rattle.sparse_pattern.specs.Raw.{Raw, raw_of}
use Rattle.sparse_c.specs.Fills.{IsFillOf}
use Rattle.sparse_c.proofs.systems.fill.fill_of.Goals as goal

pub returns-clause-fill : goal.returns-clause-fill
returns-clause-fill c =
    let number = c.args.triangle in
    let pattern = raw_of c.args.size c.args.size c.args.offsets.now c.args.indices.now in
    let facts = c.in_ok-factor.ensures in
    let filled : IsFillOf number c.in_ok-pattern.pattern c.in_ok-factor.factor.factor = record {
      triangle = c.in_ok-triangle.triangle;
      is = sym (to_z-of_z w32 number c.ranges.triangle) ∙ c.in_ok-triangle.ensures.is;
      rows = facts.rows;
      columns = facts.columns;
      valid = facts.valid;
      fill = facts.fill;
    } in
    subst (λ (l : Raw). IsFillOf number pattern l) (sym c.into_l_pattern.ensures)
    (subst (λ (d : Raw). IsFillOf number d c.in_ok-factor.factor.factor) c.in_ok-pattern.ensures.is
    filled)
