use Rattle.std.proofs.Common.{map, take, string_bytes}
use Rattle.file_readings.specs.Readings.{AreRead}
use Rattle.mtxkit_arguments.specs.Files.{paths}
use Rattle.mtxkit_commands.proofs.evaluated.read_all.Given as goal

abbrev pub invariant-loop-index : goal.invariant-loop-index
invariant-loop-index g l = AreRead (paths (take l.index l.files)) (map string_bytes l.contents.items)
    (g.T.Texts.readings l.initial.texts) (g.T.Texts.readings l.texts)
