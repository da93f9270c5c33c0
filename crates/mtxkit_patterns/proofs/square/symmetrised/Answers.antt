use Rattle.std.proofs.Common.{◌⊎◌, inl, inr}
use Rattle.sparse_pattern.specs.Raw.{IsEntry}
use Rattle.mtxkit_patterns.proofs.square.symmetrised.Goals as goal

pub returns : goal.returns
returns c =
    let t = c.in_ok-transposed.ensures.transposed in
    record {
      valid = c.in_ok-union.ensures.valid;
      major_dim = c.in_ok-union.ensures.major;
      minor_dim = c.in_ok-union.ensures.minor;
      entries = λ i j. (
        λ e. elim (((c.in_ok-union.ensures.entries i j).0) e) [
          | inl is ↦ inl is
          | inr is ↦ inr ((t.entries j i).0 is)
        ],
        λ e. (c.in_ok-union.ensures.entries i j).1 (elim e as
            (λ _. IsEntry c.args.pattern.now i j ⊎ IsEntry c.in_ok-transposed.transposed i j) [
              | inl is ↦ inl is
              | inr is ↦ inr ((t.entries j i).1 is)
            ]),
      );
    }
