-- The sizes of pictures.
use Rattle.std.specs.Prelude.{◌<◌, ℕ, Option, Some, None, nat_lt, if◌then◌else◌}
use Rattle.mtxkit_arguments.specs.declared.commands.Command.{Command}
use Rattle.mtxkit_arguments.specs.declared.commands.Command.TheVariants.{Spy}
use Rattle.mtxkit_arguments.specs.declared.options.Target.{Target}
use Rattle.mtxkit_arguments.specs.declared.options.Target.TheVariants.{Bitmap, Blocks, Svg, File}

-- the largest number of cells of a side, if none is given
abbrev pub default_size : Target → ℕ
default_size Bitmap = 512
default_size Blocks = 64
default_size Svg = 128
default_size (File path) = 512

-- the same, if one is given: 0 counts as none
abbrev pub size_given : Option ℕ → Target → ℕ
size_given None target = default_size target
size_given (Some size) target = if nat_lt 0 size then size else default_size target

-- the picture has at least one cell
abbrev pub IsSized : Command → Type 0
IsSized (Spy file size target) = 0 < size
IsSized command = Unit {0}
