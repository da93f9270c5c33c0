use Rattle.sparse_factor.proofs.Children.{column_at, tail_at, no_tail}
use Rattle.sparse_factor.proofs.factorization.columns.children.tail_of.Goals as goal

pub skip_row-requires : goal.skip_row-requires
skip_row-requires c =
    let column = column_at c.requires.columns c.if-head-eq0.false c.requires.head c.index.ensures
    c.index-2.ensures in
    rw c.deref.ensures.value record { run = column.run; first = column.low }

pub returns : goal.returns
returns c =
    let column = column_at c.requires.columns c.if-head-eq0.false c.requires.head c.index.ensures
    c.index-2.ensures in
    let skip = rw c.deref.ensures.value at c.skip_row.ensures in
    tail_at column c.skip_row.result skip.after skip.within skip.same skip.above

pub returns-then-head-eq0 : goal.returns-then-head-eq0
returns-then-head-eq0 c =
    rw c.if-head-eq0.true
    (no_tail c.args.columns.now.offsets.items c.args.columns.now.rows.items)
