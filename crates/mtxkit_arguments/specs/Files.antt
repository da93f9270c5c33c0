-- The files of commands: those that are read, in order, and the one that is written.
use Rattle.std.specs.Prelude.{ℕ, ◌==◌, if◌then◌else◌, List, [], Option, Some, None, zero, suc, ◌∷◌}
use Rattle.std.specs.Prelude.{map, slice_get, Bool, true, false}
use denote.Ref.{Bor}
use Rattle.mtxkit_arguments.specs.declared.commands.Command.{Command}
use Rattle.mtxkit_arguments.specs.declared.commands.Command.TheVariants.{Info, Spy, Copy, Field}
use Rattle.mtxkit_arguments.specs.declared.commands.Command.TheVariants.{Integer}
use Rattle.mtxkit_arguments.specs.declared.commands.Command.TheVariants.{Order, Permute, Fill}
use Rattle.mtxkit_arguments.specs.declared.commands.Command.TheVariants.{Symmetric, Solve, Check}
use Rattle.mtxkit_arguments.specs.declared.commands.Command.TheVariants.{Eval}
use Rattle.mtxkit_arguments.specs.declared.options.FillOrder.{FillOrder}
use Rattle.mtxkit_arguments.specs.declared.options.FillOrder.TheVariants as fill
use Rattle.mtxkit_arguments.specs.declared.options.Target.{Target}
use Rattle.mtxkit_arguments.specs.declared.options.Target.TheVariants.{Bitmap, Blocks, Svg, File}

-- the paths of the files of `fill`, in the order in which they are read
abbrev pub first_of_fill : FillOrder → List ℕ → List ℕ
first_of_fill fill.Natural file = file
first_of_fill (fill.Computed method) file = file
first_of_fill (fill.File path) file = path.now

abbrev pub second_of_fill : FillOrder → List ℕ → Option (List ℕ)
second_of_fill fill.Natural file = None
second_of_fill (fill.Computed method) file = None
second_of_fill (fill.File path) file = Some file

-- the paths of borrowed words
abbrev pub paths : List (Bor (List ℕ)) → List (List ℕ)
paths files = map (λ file. file.now) files

-- the path with this number, counted from 1, if there is one
abbrev pub path_at : List (List ℕ) → ℕ → Option (List ℕ)
path_at files zero = None
path_at files (suc n) = slice_get files n

-- the first path, or an empty one if there is none
abbrev pub first_path : List (List ℕ) → List ℕ
first_path [] = []
first_path (file ∷ files) = file

abbrev pub first_file : Command → List ℕ
first_file (Info file form) = file.now
first_file (Spy file size target) = file.now
first_file (Copy file) = file.now
first_file (Field file values) = file.now
first_file (Integer file scale) = file.now
first_file (Symmetric file) = file.now
first_file (Order file method) = file.now
first_file (Permute order file) = order.now
first_file (Fill file order form) = first_of_fill order file.now
first_file (Eval modulus order words files) = first_path (paths files.now)
first_file (Solve modulus order a b) = a.now
first_file (Check modulus a x b) = a.now

abbrev pub second_file : Command → Option (List ℕ)
second_file (Permute order file) = Some file.now
second_file (Fill file order form) = second_of_fill order file.now
second_file (Solve modulus order a b) = Some b.now
second_file (Check modulus a x b) = Some x.now
second_file command = None

abbrev pub third_file : Command → Option (List ℕ)
third_file (Check modulus a x b) = Some b.now
third_file command = None

-- the path of the file with this number, counted from 1, if the command has one and its files have names
abbrev pub named_file : Command → ℕ → Option (List ℕ)
named_file command number = if number == 1 then Some (first_file command)
    else if number == 2 then second_file command
    else if number == 3 then third_file command else None

-- the path of the file with this number, counted from 1, if the command has one
abbrev pub file_of : Command → ℕ → Option (List ℕ)
file_of (Eval modulus order words files) number = path_at (paths files.now) number
file_of command number = named_file command number

-- the path of the file that a picture is written to
abbrev pub target_file : Target → Option (List ℕ)
target_file Bitmap = None
target_file Blocks = None
target_file Svg = None
target_file (File path) = Some path.now

abbrev pub saved_file : Command → Option (List ℕ)
saved_file (Spy file size target) = target_file target
saved_file command = None

-- the target is a file
abbrev pub is_file : Target → Bool
is_file Bitmap = false
is_file Blocks = false
is_file Svg = false
is_file (File path) = true

-- the result is written to a file
abbrev pub is_saved : Command → Bool
is_saved (Spy file size target) = is_file target
is_saved command = false
