-- The line that says how much of a file was read.
use Rattle.std.specs.Prelude.{ℕ, ◌/◌, List, ◌++◌, codes}
use Rattle.std.specs.Fmt.{decimal}

-- a number of bytes in megabytes, rounded down
abbrev pub megabytes : ℕ → List ℕ
megabytes bytes = decimal (bytes / 1000000)

-- the line for the file with this path, of whose `whole` bytes `done` were read
abbrev pub progress_text : List ℕ → ℕ → ℕ → List ℕ
progress_text path done whole = codes "\rmtxkit: " ++ (path ++ (codes ": "
    ++ (megabytes done ++ (codes " of " ++ (megabytes whole ++ codes " MB read")))))
