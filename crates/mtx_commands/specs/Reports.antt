-- The lines of errors.
use Rattle.std.specs.Prelude.{◌≡◌, ◌⊎◌, ℕ, ◌+◌, List, ◌++◌, codes, Option}
use Rattle.std.specs.Fmt.{decimal}
use Rattle.std.specs.Io.KnownBytes.{Appends}
use Rattle.nalgebra_sparse.specs.ErrorTexts.{kind_name}
use Rattle.sparse_expr.specs.declared.error.ExprError.{ExprError}
use Rattle.sparse_expr.specs.declared.error.ExprError.TheVariants.{BadWord, MissingOperand, LeftOver}
use Rattle.sparse_expr.specs.declared.error.ExprError.TheVariants.{NoSuchInput, Shape, Input, Write}
use Rattle.sparse_expr.specs.declared.error.ExprError.TheVariants.{OutOfMemory}
use Rattle.mtx_commands.specs.declared.cli.Failure.{Failure}
use Rattle.mtx_commands.specs.declared.cli.Failure.TheVariants.{Usage, NotSquare, Refused}

-- the message of an error
abbrev pub message_of : ExprError → List ℕ
message_of BadWord = codes "expression: unknown word"
message_of MissingOperand = codes "expression: operand missing"
message_of LeftOver = codes "expression: operands left over"
message_of NoSuchInput = codes "expression: no such input"
message_of Shape = codes "expression: shapes do not fit"
message_of (Input number kind) = codes "input " ++ (decimal number ++ (codes ": " ++ kind_name kind))
message_of (Write kind) = codes "write failed"
message_of OutOfMemory = codes "out of memory"

-- the line of a failure
abbrev pub line_of : Failure → List ℕ
line_of Usage = codes
    "usage: mtx rows EXPR FILE.. | mtx cols EXPR FILE.. | mtx fill [upper|lower|both] FILE\n"
line_of NotSquare = codes "mtx: not square\n"
line_of (Refused error) = codes "mtx: " ++ (message_of error ++ codes "\n")

-- a text was appended, or a write of it failed: the number of failed writes rose by 1
abbrev pub IsWritten : List ℕ → Option (List ℕ) → Option (List ℕ) → ℕ → ℕ → Type 0
IsWritten text old new before after = Appends old new text ⊎ (after ≡ before + 1)

-- the line of this failure was written
abbrev pub IsWrittenFor : Failure → Option (List ℕ) → Option (List ℕ) → ℕ → ℕ → Type 0
IsWrittenFor failure old new before after = IsWritten (line_of failure) old new before after

-- the line of this failure was written, or, where it is an input's error, that of a failed
-- allocation: there was no memory for the line
abbrev pub IsReported : Failure → Option (List ℕ) → Option (List ℕ) → ℕ → ℕ → Type 0
IsReported (Refused (Input number kind)) old new before after =
    IsWrittenFor (Refused (Input number kind)) old new before after
    ⊎ IsWrittenFor (Refused OutOfMemory) old new before after
IsReported failure old new before after = IsWrittenFor failure old new before after
