use Rattle.std.proofs.Common.{sym, ◌∙◌}
use Rattle.mtxkit_matrices.proofs.facts.shape.is_symmetric.Goals as goal

pub returns : goal.returns
returns c =
    let same = c.eq.ensures.entries in
    let t = c.in_ok-transposed.ensures.transposed in (
      λ is.
          let s = same.0 is in
          record {
            square = s.major_dim ∙ t.major_dim;
            entries = λ i j place. (t.entries j i).0 ((s.entries i j).0 place);
          },
      λ s. same.1 (record {
        major_dim = s.square ∙ sym t.major_dim;
        minor_dim = sym s.square ∙ sym t.minor_dim;
        entries = λ i j. (
          λ place. (t.entries j i).1 (s.entries i j place),
          λ place. s.entries j i ((t.entries j i).0 place),
        );
      }),
    )
