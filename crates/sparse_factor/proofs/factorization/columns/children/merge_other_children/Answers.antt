use Rattle.sparse_factor.proofs.Tails.{single_others, others_sorted}
use Rattle.sparse_factor.proofs.factorization.columns.children.merge_other_children.Goals as goal

pub returns-then-is_single-clause-rows : goal.returns-then-is_single-clause-rows
returns-then-is_single-clause-rows g c =
    single_others c.requires.some c.requires.on_list (c.is_single.ensures c.if-is_single.true)

pub returns-clause-rows : goal.returns-clause-rows
returns-clause-rows g c = others_sorted c.in_ok-merge_tails.ensures.rows c.sort_rows.ensures.same
