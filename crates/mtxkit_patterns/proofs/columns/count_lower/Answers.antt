use Rattle.std.specs.Prelude.{nat_le}
use Rattle.std.proofs.Common.{◌≡◌, ℕ, length, ap, sym, ◌∙◌, arith}
use Rattle.std.proofs.lemmas.List.Sums.{count_by-le-length}
use Rattle.sparse_pattern.specs.Raw.{entries_of}
use Rattle.mtxkit_patterns.proofs.CountedEntries.{counted}
use Rattle.mtxkit_patterns.proofs.columns.count_lower.Goals as goal

pub overflow_add-count : goal.overflow_add-count
overflow_add-count c =
    let all = entries_of c.args.pattern.now in
    let most = count_by-le-length (λ (p : ℕ × ℕ). nat_le p.0 p.1) all in
    let long : length all ≡ length c.args.pattern.now.indices =
    sym (ap length c.entries-col-items.ensures.all) ∙ c.entries-col-items.ensures.count in
    let one = counted c.in-Some.col c.in-Some.row c.loop-col.col-iterator c.next.new.self
    c.in-Some.ensures.steps c.if-col-row.true in
    let listed = ap length c.minor_indices.ensures.indices in
    omega (arith, most, long, one, c.loop-col.invariant, listed, c.minor_indices.type_inv)
