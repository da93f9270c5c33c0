-- Errors in reading the program's arguments.
use Rattle.std.specs.declared.io.ErrorKind.{ErrorKind}
use Rattle.std.specs.declared.io.ErrorKind.TheVariants as io
use Rattle.mtxkit_arguments.specs.declared.given.ArgumentError.{ArgumentError}
use Rattle.mtxkit_arguments.specs.declared.given.ArgumentError.TheVariants.{NotText}
use Rattle.mtxkit_arguments.specs.declared.given.ArgumentError.TheVariants.{OutOfMemory}

-- the error for an error of this kind in reading the arguments
abbrev pub argument_fault : ErrorKind → ArgumentError
argument_fault io.OutOfMemory = OutOfMemory
argument_fault kind = NotText
