-- The files that were read and written so far, and what is left of the standard input.
use Rattle.std.specs.Prelude.{ℕ, List, Option}
use Rattle.file_readings.specs.Readings.{Reading}
use Rattle.mtxkit_commands.specs.Savings.{Saving}
use Rattle.mtxkit_commands.specs.declared.inputs.Inputs.{Inputs}
use Rattle.mtxkit_commands.specs.declared.outputs.Outputs.{Outputs}

-- the files that were read, with their texts or errors, the last one first
abbrev pub readings_of : {R I W : Type 0} → Inputs R I W → List Reading
readings_of inputs = inputs.log.readings

-- the files that were to be written, with the bytes, the last one first
abbrev pub savings_of : {R : Type 0} → Outputs R → List Saving
savings_of outputs = outputs.log.savings

-- the bytes that are left of the standard input, where contracts know them
abbrev pub input_of : {R I W : Type 0} → (I → Option (List ℕ)) → Inputs R I W → Option (List ℕ)
input_of remaining inputs = remaining inputs.stdin.now
