use Rattle.std.proofs.Common.{rules}
use Rattle.mtxkit_texts.proofs.EntryLines.{IsBegun-none, IsBegun-more, IsBegun-all}
use Rattle.mtxkit_texts.proofs.pattern_texts.write_pattern.Goals as goal

pub loop-row-init : goal.loop-row-init
loop-row-init c = IsBegun-none _ _ _ (search rules) (search rules)

pub loop-row-preserved : goal.loop-row-preserved
loop-row-preserved c = rw c.in_ok-push_entry.ensures
    (IsBegun-more _ _ _ _ _ c.loop-row.invariant c.in-Some.ensures.steps)

pub returns : goal.returns
returns c = IsBegun-all _ _ _ c.loop-row.invariant c.in-None.ensures.steps.0
