-- The state of the writer between two lines.
use Rattle.std.specs.Prelude.{◌≡◌, ℕ, List, ◌++◌, length, Option}
use Rattle.std.specs.Io.KnownBytes.{Appends}
use Rattle.sparse_coo_dense.specs.Coo.{Coo}
use Rattle.sparse_io.specs.declared.banner.Banner.{Banner}
use Rattle.sparse_io.specs.Written.{heading_with, size_line}

-- the header, the comment below it and the size line
abbrev pub head_of : {V : Type 0} → Banner → List ℕ → Coo V → List ℕ
head_of banner name m = heading_with banner name ++ size_line m.nrows m.ncols (length m.triplets)

-- a prefix of the bytes was appended, and the buffer holds the rest
pub record IsBuffered (old new : Option (List ℕ)) (buffer bytes : List ℕ) : Type 0 where
  pub done : List ℕ
  pub parts : bytes ≡ done ++ buffer
  pub appended : Appends old new done
