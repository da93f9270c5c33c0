use Rattle.std.proofs.Common.{length, drop, ap, ◌∙◌, subst}
use Rattle.std.proofs.lemmas.List.{take_at}
use Rattle.sparse_algebra.specs.Plain.{plain_scaled}
use Rattle.sparse_compressed.specs.ChangedValues.{AreChanged}
use Rattle.sparse_compressed.specs.Compressed.{compressed_of}
use Rattle.sparse_compressed.specs.PlainOfLanes.{plain_of_rows}
use Rattle.sparse_compressed.proofs.ChangedPlain.{scaled}
use Rattle.sparse_compressed.proofs.CsMatrix.scale.Goals as goal

pub returns-clause-values : goal.returns-clause-values
returns-clause-values g c =
    let R = g.T.Ring.ring in
    let f = g.T.Ring.value in
    let z = g.T.Zero.zero_value in
    let s = f c.args.coefficient in
    let new = c.scale_values.new.values in
    let old = compressed_of c.self.inside.sparsity_pattern c.self.inside.values.items in
    let changed = subst (λ vs. AreChanged f (R.mul s) z vs new) c.deref_mut.ensures.value
    c.scale_values.ensures in
    let whole = take_at new _ _ (c.scale_values.auto.values ∙ c.deref_mut.ensures.len) in
    ap (λ vs. plain_of_rows R f (compressed_of c.self.inside.sparsity_pattern vs)) whole
    ∙ scaled R f z old new c.self.invariant s changed
    ∙ ap (λ m. plain_scaled R s (plain_of_rows R f m)) c.self.view_is

pub invariant_of-self : goal.invariant_of-self
invariant_of-self g c =
    let new = c.scale_values.new.values in
    let whole = take_at new (drop (length new) c.self.inside.values.items) _
    (c.scale_values.auto.values ∙ c.deref_mut.ensures.len) in
    rw whole record {
      valid = c.self.invariant.valid;
      count = c.scale_values.auto.values ∙ ap length c.deref_mut.ensures.value
          ∙ c.self.invariant.count;
    }

pub returns-clause-sound : goal.returns-clause-sound
returns-clause-sound g c = invariant_of-self g c
