-- written by tools/answer-goals
use Rattle.std.proofs.Common.{rules}
use Rattle.sparse_io.proofs.writer.flush.Goals as goal

pub returns-in_err-write_all_to-clause-prefix : goal.returns-in_err-write_all_to-clause-prefix
returns-in_err-write_all_to-clause-prefix g c = search rules

pub returns-in_err-write_all_to-clause-refused : goal.returns-in_err-write_all_to-clause-refused
returns-in_err-write_all_to-clause-refused g c = search rules

pub returns-clause-unfailed : goal.returns-clause-unfailed
returns-clause-unfailed g c = search rules

pub returns-clause-all : goal.returns-clause-all
returns-clause-all g c = search rules
