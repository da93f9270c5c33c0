use Rattle.std.proofs.Common.{◌≡◌, ℕ, ◌+◌, ◌*◌, ◌<◌, slice_index, sym, ap, ◌∙◌, rules}
use Rattle.std.specs.Prelude.{nat_lt}
use Rattle.std.specs.Vec.{with_items}
use Rattle.std.proofs.lemmas.Bool.{ltb-true, lt-ltb}
use Rattle.std.proofs.lemmas.List.{with_items_is}
use Rattle.mtxkit_matrices.specs.Pictures.{is_black, entries_in}
use Rattle.mtxkit_matrices.proofs.CellCounts.{HasEntryIn-from_count, count-from_HasEntryIn}
use Rattle.mtxkit_matrices.proofs.pictures.picture.draw.Goals as goal

counted : (c : goal.After-counts-3-1) → (r col : ℕ) → r < c.args.height → col < c.args.width
    → slice_index (with_items c.in_ok-counts.counts c.count_entries.new.counts).items
    (r * c.args.width + col)
    ≡ entries_in c.args.pattern.now c.args.height c.args.width r col
counted c r col down across =
    ap (λ xs. slice_index xs (r * c.args.width + col))
    (with_items_is c.in_ok-counts.counts c.count_entries.new.counts (search rules))
    ∙ c.count_entries.ensures.counted r col down across

pub returns-clause-counts : goal.returns-clause-counts
returns-clause-counts c = λ r col down across. counted c r col down across

pub returns-clause-black : goal.returns-clause-black
unfolding is_black
returns-clause-black c = λ r col down across.
    let p = c.args.pattern.now in
    let valid = c.major_offsets.ensures.valid in
    let is = counted c r col down across in (
      λ black. HasEntryIn-from_count p valid c.args.height c.args.width r col
          (ltb-true _ _ (ap (λ n. nat_lt 0 n) (sym is) ∙ black)),
      λ has. ap (λ n. nat_lt 0 n) is ∙ lt-ltb _ _
          (count-from_HasEntryIn p valid c.args.height c.args.width r col has),
    )
