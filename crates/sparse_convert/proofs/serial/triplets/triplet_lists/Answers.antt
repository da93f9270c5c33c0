use Rattle.std.proofs.Common.{ℕ, map, ap, sym, ◌∙◌}
use Rattle.sparse_pattern.specs.Raw.{entries_of}
use Rattle.sparse_convert.proofs.StoredTriplets.{lanes_stored, indices_stored, values_stored}
use Rattle.sparse_convert.proofs.serial.triplets.triplet_lists.Goals as goal

pub returns-clause-lanes : goal.returns-clause-lanes
returns-clause-lanes g c = c.in_ok-lanes.ensures ∙ ap (λ d. map (λ (p : ℕ × ℕ). p.0) (entries_of d))
    c.pattern.ensures.pattern ∙ sym (lanes_stored c.args.cs.now c.pattern.ensures.sound)

pub returns-clause-indices : goal.returns-clause-indices
returns-clause-indices g c = c.in_ok-indices.ensures.items ∙ c.minor_indices.ensures.indices
    ∙ ap (λ d. d.indices) c.pattern-2.ensures.pattern
    ∙ sym (indices_stored c.args.cs.now c.pattern.ensures.sound)

pub returns-clause-values : goal.returns-clause-values
returns-clause-values g c = c.in_ok-values.ensures.items ∙ c.values.ensures.values
    ∙ sym (values_stored c.args.cs.now c.pattern.ensures.sound)
