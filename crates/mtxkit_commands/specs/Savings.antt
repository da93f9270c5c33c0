-- The files that commands write.
use Rattle.std.specs.Prelude.{ℕ, List}

-- the path of a file, and the bytes that were to be written to it
abbrev pub Saving : Type 0
Saving = List ℕ × List ℕ
