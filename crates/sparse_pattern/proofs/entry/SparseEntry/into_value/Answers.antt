use Rattle.sparse_pattern.proofs.entry.SparseEntry.into_value.Goals as goal

pub returns-in-NonZero : goal.returns-in-NonZero
returns-in-NonZero g c = search
