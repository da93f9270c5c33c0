use Rattle.std.proofs.Common.{map, take, string_bytes}
use Rattle.nalgebra_sparse.specs.PostfixWords.{texts}
use Rattle.file_readings.specs.Readings.{AreRead}
use Rattle.mtx_commands.proofs.inputs.read_all.Given as goal

abbrev pub invariant-loop-index : goal.invariant-loop-index
invariant-loop-index g l = AreRead (texts (take l.index l.paths)) (map string_bytes l.contents.items)
    (g.T.Texts.readings l.initial.inputs) (g.T.Texts.readings l.inputs)
