use Rattle.sparse_io.proofs.OneMeaning.{one_document}
use Rattle.sparse_io.proofs.laws.one_document.Goals as goal

pub returns : goal.returns
returns c = one_document
