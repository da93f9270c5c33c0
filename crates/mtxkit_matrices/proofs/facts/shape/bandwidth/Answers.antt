use Rattle.std.proofs.Common.{◌≡◌, ◌∷◌, inl, inr, refl, sym, rules, arith}
use Rattle.mtxkit_matrices.proofs.EntriesLeft.{none_done, next_place, next_done, all_done}
use Rattle.mtxkit_matrices.proofs.facts.shape.bandwidth.Goals as goal

pub loop-row-init : goal.loop-row-init
loop-row-init c =
    let all : c.into_iter-row-iterator.result ≡ c.entries-row-items.result = search rules in
    record {
      half = rw all (none_done c.args.pattern.now c.entries-row-items.result _
          c.entries-row-items.ensures.entries);
      reached = inl refl;
    }

pub loop-row-preserved-then-widest-distance : goal.loop-row-preserved-then-widest-distance
loop-row-preserved-then-widest-distance c =
    let inv = c.loop-row.invariant in
    let step : c.loop-row.row-iterator ≡ (c.in-Some.row, c.in-Some.col) ∷ c.next.new.self =
    c.in-Some.ensures.steps in
    record {
      half = next_done c.args.pattern.now c.in-Some.row c.in-Some.col step
          (λ a b le. omega (arith, le, c.if-widest-distance.true))
          (omega (arith, c.abs_diff-distance.ensures)) inv.half;
      reached = inr (
        c.in-Some.row,
        c.in-Some.col,
        next_place c.args.pattern.now c.in-Some.row c.in-Some.col step inv.half,
        sym c.abs_diff-distance.ensures,
      );
    }

pub loop-row-preserved : goal.loop-row-preserved
loop-row-preserved c =
    let inv = c.loop-row.invariant in
    let step : c.loop-row.row-iterator ≡ (c.in-Some.row, c.in-Some.col) ∷ c.next.new.self =
    c.in-Some.ensures.steps in
    record {
      half = next_done c.args.pattern.now c.in-Some.row c.in-Some.col step (λ a b le. le)
          (omega (arith, c.abs_diff-distance.ensures, c.if-widest-distance.false)) inv.half;
      reached = inv.reached;
    }

pub returns-clause-bound : goal.returns-clause-bound
returns-clause-bound c = all_done c.args.pattern.now c.in-None.ensures.steps.0
    c.loop-row.invariant.half
