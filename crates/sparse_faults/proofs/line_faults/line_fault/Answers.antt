use Rattle.sparse_faults.proofs.LineWords.{entry_passes, no_entry}
use Rattle.sparse_faults.proofs.line_faults.line_fault.Goals as goal

pub returns-in-Some : goal.returns-in-Some
returns-in-Some c =
    entry_passes c.args.search c.args.line.now _ _ c.requires.line c.in-Some.ensures.words
    c.in-Some.ensures.is c.fault_in.ensures

pub returns-in-None : goal.returns-in-None
returns-in-None c = no_entry c.args.search c.args.line.now c.requires.line c.in-None.ensures
