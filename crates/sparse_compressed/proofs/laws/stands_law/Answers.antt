use Rattle.sparse_compressed.proofs.ArraysDeterminePlain.{plain_of_rows-has_lanes, plain_of_cols-has_lanes, plain_of_rows-unique, plain_of_cols-unique}
use Rattle.sparse_compressed.proofs.laws.stands_law.Goals as goal

pub returns-clause-rows : goal.returns-clause-rows
returns-clause-rows g c = λ m sound. plain_of_rows-has_lanes g.T.Ring.ring g.T.Ring.value m sound

pub returns-clause-cols : goal.returns-clause-cols
returns-clause-cols g c = λ m sound. plain_of_cols-has_lanes g.T.Ring.ring g.T.Ring.value m sound

pub returns-clause-one_by_rows : goal.returns-clause-one_by_rows
returns-clause-one_by_rows g c = λ m a sound has. plain_of_rows-unique g.T.Ring.ring g.T.Ring.value m sound
    g.T.Zero.zero_value a has

pub returns-clause-one_by_cols : goal.returns-clause-one_by_cols
returns-clause-one_by_cols g c = λ m a sound has. plain_of_cols-unique g.T.Ring.ring g.T.Ring.value m sound
    g.T.Zero.zero_value a has
