use Rattle.std.proofs.lemmas.Grind.{common_steps}
use Rattle.std.proofs.Common.{◌≡◌, ℕ, ◌+◌, ◌*◌, ◌/◌, ◌≤◌, length, slice_index, sum}
use Rattle.std.proofs.Common.{ap, sym, ◌∙◌, arith}
use Rattle.std.proofs.lemmas.List.{length_push}
use Rattle.mtxkit_matrices.specs.Lanes.{count_below, has_size_in}
use Rattle.mtxkit_matrices.proofs.LaneCounts.{counts_split, counts_none, lines_all, each_push}
use Rattle.mtxkit_matrices.proofs.LaneCounts.{total_push}
use Rattle.mtxkit_matrices.proofs.facts.lanes.counted_lanes.Goals as goal

rise : (a w : ℕ) → a * w ≤ (a + 1) * w
rise a w = grind arith

pub loop-line-init : goal.loop-line-init
loop-line-init c =
    let p = c.args.pattern.now in
    let empty = c.in_ok-counts.ensures.items in
    let none : 0 ≡ 0 * (c.longest_lane.result / 10 + 1) = omega arith in
    record {
      lines = ap length empty;
      each = λ b lt. absurd (omega (arith, lt));
      total = ap sum empty ∙ sym (counts_none p p.major_dim)
          ∙ ap (λ k. count_below p.major_dim (has_size_in p 0 k)) none;
    }

pub loop-line-preserved : goal.loop-line-preserved
loop-line-preserved c =
    let p = c.args.pattern.now in
    let n = p.major_dim in
    let w = c.longest_lane.result / 10 + 1 in
    let line = c.loop-line.line in
    let inv = c.loop-line.invariant in
    let old = c.loop-line.counts.items in
    let x = c.count_lanes.result in
    let items = c.in_ok-push.ensures.items in
    let is : x ≡ count_below n (has_size_in p (line * w) ((line + 1) * w)) =
    c.count_lanes.ensures.count in
    record {
      lines = ap length items ∙ length_push old x ∙ ap (λ k. k + 1) inv.lines;
      each = λ b lt. ap (λ xs. slice_index xs b) items
          ∙ each_push old x line (λ k. count_below n (has_size_in p (k * w) ((k + 1) * w)))
          inv.lines inv.each is b lt;
      total = ap sum items
          ∙ total_push old x _ _ _ inv.total is
          (counts_split p n 0 (line * w) ((line + 1) * w) (omega arith) (rise line w));
    }

pub returns-clause-total : goal.returns-clause-total
returns-clause-total c =
    let p = c.args.pattern.now in
    let n = p.major_dim in
    let w = c.longest_lane.result / 10 + 1 in
    let last : c.loop-line.line ≡ 10 = omega (arith, c.loop-line-test.false, c.loop-line.auto) in
    c.loop-line.invariant.total
    ∙ ap (λ k. count_below n (has_size_in p 0 (k * w))) last
    ∙ lines_all p n c.longest_lane.result c.longest_lane.ensures.bound

-- ---- written by tools/answer-goals

pub overflow_mul-line-in-loop-line : goal.overflow_mul-line-in-loop-line
overflow_mul-line-in-loop-line c = grind (arith, common_steps)
