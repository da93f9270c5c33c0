use Rattle.std.proofs.Common.{◌≡◌, ◌++◌, map}
use Rattle.std.specs.List.{range_with_len}
use Rattle.reference_models.proofs.texts.entries.push_column.Given as goal

abbrev pub invariant-loop-number : goal.invariant-loop-number
invariant-loop-number l =
    l.places.items
    ≡ l.initial.places.items ++ map (λ r. (r, l.col)) (range_with_len l.first l.number)
