use Rattle.std.proofs.Common.{refl, inl, inr}
use Rattle.sparse_c.proofs.texts.faults.line_of_fault.Goals as goal

pub returns-in-Some : goal.returns-in-Some
returns-in-Some c = inl (c.in-Some.ensures.counted, c.in-Some.ensures.fault)

pub returns-in-None : goal.returns-in-None
returns-in-None c = inr (refl, c.text_fault.ensures.none c.in-None.is)
