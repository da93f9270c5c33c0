use Rattle.std.proofs.Common.{rules, ◌-◌, ap, ◌∙◌, refl}
use Rattle.std.proofs.lemmas.List.{places}
use Rattle.sparse_compressed.specs.Compressed.{compressed_of}
use Rattle.sparse_compressed.specs.Lanes.{lanes_of}
use Rattle.sparse_compressed.specs.MutIterators.{lanes_with}
use Rattle.sparse_compressed.proofs.MutIteratorLanes.{lanes_with_all}
use Rattle.sparse_compressed.proofs.CsMatrix.lane_iter_mut.Goals as goal

pub invariant_of-self-lent : goal.invariant_of-self-lent
invariant_of-self-lent g c = search (rules, places)

pub returns : goal.returns
returns g c =
    let d = c.self.inside.sparsity_pattern in (
      (refl, λ w. rw (← c.self.view_is, c.self.inside.values.ok.0) refl),
      record {
        writes_back = tt;
        sound = rw (← c.self.view_is) c.self.invariant;
        all =
            ap (λ vs. lanes_with d 0 (d.major_dim - 0) vs) c.deref_mut.ensures.value
            ∙ lanes_with_all (compressed_of d c.self.inside.values.items) c.self.invariant
            ∙ ap (λ m. lanes_of m) c.self.view_is;
      },
    )
