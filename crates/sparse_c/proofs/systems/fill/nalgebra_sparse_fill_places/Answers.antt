use Rattle.std.proofs.Common.{◌≡◌, ℤ, inl, subst, ◌∙◌, rules, to_z, of_z}
use Rattle.std.proofs.lemmas.Int.{to_z-of_z}
use Rattle.std.specs.Int.{w32}
use Rattle.sparse_pattern.specs.Raw.{raw_of}
use Rattle.sparse_c.specs.Fills.{IsFaultOfFill}
use Rattle.c_arrays.specs.Refused.{IsOutOfMemoryOr}
use Rattle.sparse_c.proofs.systems.fill.nalgebra_sparse_fill_places.Goals as goal

pub returns-in-Err-clause-refused : goal.returns-in-Err-clause-refused
returns-in-Err-clause-refused c = λ _.
    let same : to_z w32 (of_z w32 c.status.result) ≡ c.status.result = search rules in
    let pattern = raw_of c.args.size c.args.size c.args.offsets.now c.args.indices.now in (
      c.in-Err.refusal,
      same ∙ c.status.ensures,
      inl (subst (λ (n : ℤ). IsOutOfMemoryOr (IsFaultOfFill n pattern) c.in-Err.refusal)
          (to_z-of_z w32 c.args.triangle c.ranges.triangle) c.in-Err.ensures.fault),
    )
