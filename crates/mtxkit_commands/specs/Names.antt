-- The files that the lines of errors name, and the lines of these files.
use Rattle.std.specs.Prelude.{ℕ, if◌then◌else◌, List, [], ◌++◌, codes, Option}
use Rattle.std.specs.Prelude.{Some, None, Bool, true, false}
use Rattle.std.specs.Fmt.{decimal}
use Rattle.mtxkit_matrices.specs.ScaleFailures.{faulty_line}
use Rattle.mtxkit_patterns.specs.declared.order_error.OrderError.{OrderError}
use Rattle.mtxkit_patterns.specs.declared.order_error.OrderError.TheVariants as order
use Rattle.mtxkit_texts.specs.declared.failure.Failure.{Failure}
use Rattle.mtxkit_texts.specs.declared.failure.Failure.TheVariants.{Unread, Input, NotSupported}
use Rattle.mtxkit_texts.specs.declared.failure.Failure.TheVariants.{Wide, Overflow, Unsaved}
use Rattle.mtxkit_texts.specs.declared.failure.Failure.TheVariants.{NotSquare, NotSymmetric}
use Rattle.mtxkit_texts.specs.declared.failure.Failure.TheVariants.{NoFactors, NotSolution}
use Rattle.mtxkit_texts.specs.declared.failure.Failure.TheVariants.{Shapes, ProductShapes}
use Rattle.mtxkit_arguments.specs.Files.{file_of, first_file, second_file, third_file, saved_file}
use Rattle.mtxkit_arguments.specs.declared.commands.Command.{Command}
use Rattle.mtxkit_commands.specs.declared.command_error.CommandError.{CommandError}
use Rattle.mtxkit_commands.specs.declared.command_error.CommandError.TheVariants.{Failed}
use Rattle.mtxkit_commands.specs.declared.command_error.CommandError.TheVariants.{Unscaled}
use Rattle.mtxkit_commands.specs.declared.command_error.CommandError.TheVariants.{Misordered}
use Rattle.mtxkit_commands.specs.declared.command_error.CommandError.TheVariants.{Unwritten}
use Rattle.mtxkit_commands.specs.declared.command_error.CommandError.TheVariants.{Unevaluated}

-- the path of the file that a failure of the command is about, if it is about one alone
abbrev pub fault_file : Command → Failure → Option (List ℕ)
fault_file command (Unread number error) = file_of command number
fault_file command (Input number kind location) = file_of command number
fault_file command (NotSupported number) = file_of command number
fault_file command (Wide number) = file_of command number
fault_file command (Overflow number) = file_of command number
fault_file command (NotSquare size) = file_of command 1
fault_file command (NotSymmetric at) = file_of command 1
fault_file command (NoFactors modulus pivot) = file_of command 1
fault_file command (Unsaved error) = saved_file command
fault_file command failure = None

-- a comma and a path, if there is one
abbrev pub after_comma : Option (List ℕ) → List ℕ
after_comma None = []
after_comma (Some path) = codes ", " ++ path

-- the paths of the files of a command, in order, separated by commas
abbrev pub file_names : Command → List ℕ
file_names command = (first_file command ++ after_comma (second_file command))
    ++ after_comma (third_file command)

-- the failure is about the matrices of all files together
abbrev pub is_shared : Failure → Bool
is_shared (Shapes a b) = true
is_shared (ProductShapes a x b) = true
is_shared (NotSolution at) = true
is_shared failure = false

-- the file that a failure is about, or the files
abbrev pub fault_names : Command → Failure → Option (List ℕ)
fault_names command failure =
    if is_shared failure then Some (file_names command) else fault_file command failure

-- the number of the line that a failure is about
abbrev pub fault_line : Failure → Option ℕ
fault_line (Input number kind location) = Some location.line
fault_line failure = None

-- the number of the file that an error of an order is about
abbrev pub order_number : OrderError → ℕ
order_number (order.Failed failure) = 1
order_number (order.NotSquare number) = number
order_number (order.NotColumn number) = number
order_number (order.OutOfRange number k) = number
order_number (order.Repeated number k) = number
order_number (order.OtherLength number) = number

-- the path of a file, followed by a colon and the number of a line of it, if there is one
abbrev pub with_line : Option (List ℕ) → Option ℕ → Option (List ℕ)
with_line None number = None
with_line (Some path) None = Some path
with_line (Some path) (Some number) = Some (path ++ (codes ":" ++ decimal number))

-- the files that an error of the command is about, and the number of the line
abbrev pub error_file : Command → CommandError → Option (List ℕ)
error_file command (Failed failure) = with_line (fault_names command failure) (fault_line failure)
error_file command (Unscaled error least) =
    with_line (Some (first_file command)) (faulty_line error)
error_file command (Misordered error) = with_line (file_of command (order_number error)) None
error_file command (Unevaluated error) = None
error_file command (Unwritten kind) = None

-- the path of a file before the message, if there is one
abbrev pub name_text : Option (List ℕ) → List ℕ
name_text (Some path) = path
name_text None = []
