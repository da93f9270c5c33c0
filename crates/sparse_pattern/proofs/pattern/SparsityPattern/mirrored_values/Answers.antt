use Rattle.std.proofs.Common.{◌≡◌, ap, arith, ◌∙◌}
use Rattle.sparse_pattern.specs.Raw.{start_of}
use Rattle.sparse_pattern.proofs.MirroredEntries.{own_transpose, moved_values}
use Rattle.sparse_pattern.proofs.pattern.SparsityPattern.mirrored_values.Goals as goal

pub returns-clause-symmetric : goal.returns-clause-symmetric
returns-clause-symmetric g c =
    let d = c.args.self.now in
    let valid = c.major_offsets.ensures.valid in
    let last : c.loop-lane.lane ≡ d.major_dim = omega arith in
    let count = c.loop-lane.invariant.count ∙ ap (start_of d) last ∙ valid.last in
    own_transpose d valid c.args.values.now c.loop-lane.moved.items c.loop-lane.invariant.mirrored
    count c.requires.square

pub returns-clause-values : goal.returns-clause-values
returns-clause-values g c =
    let d = c.args.self.now in
    let valid = c.major_offsets.ensures.valid in
    let last : c.loop-lane.lane ≡ d.major_dim = omega arith in
    let count = c.loop-lane.invariant.count ∙ ap (start_of d) last ∙ valid.last in
    moved_values d valid c.args.values.now c.loop-lane.moved.items c.loop-lane.invariant.mirrored
    count
