use Rattle.std.proofs.Common.{◌≡◌, ◌++◌, ◌+◌, ◌-◌, ◌*◌, string_bytes, slice_index}
use Rattle.std.specs.List.{flat_map}
use Rattle.sparse_algebra.specs.Plain.{below}
use Rattle.mtxkit_facts.specs.FactJson.{json_bar, json_comma}
use Rattle.mtxkit_facts.proofs.fact_json.push_bars.Given as goal

abbrev pub invariant-loop-line : goal.invariant-loop-line
invariant-loop-line l = string_bytes l.json ≡ string_bytes l.initial.json
    ++ flat_map (λ b. json_comma b ++ json_bar (b * l.rows.width) ((b + 1) * l.rows.width - 1)
    (slice_index l.rows.counts.items b)) (below l.line)
