-- Why the commands about orders fail, once their files were read.
use Rattle.std.proofs.Common.{◌≡◌, List, ℕ, ◌∷◌, Ok, inr}
use Rattle.mtxkit_patterns.specs.declared.order_error.OrderError.{OrderError}
use Rattle.mtxkit_patterns.specs.declared.order_error.OrderError.TheVariants.{Failed, NotSquare}
use Rattle.mtxkit_patterns.specs.declared.order_error.OrderError.TheVariants.{NotColumn, OutOfRange}
use Rattle.mtxkit_patterns.specs.declared.order_error.OrderError.TheVariants.{Repeated, OtherLength}
use Rattle.mtxkit_commands.specs.CommandFaults.{order_fault}
use Rattle.file_readings.specs.Readings.{Reading}
use Rattle.mtxkit_commands.specs.OrderCommands.{IsErrorOfOne, IsErrorOfTwo}

pub one_refused : (IsFault : List ℕ → OrderError → Type 0) (file text : List ℕ)
    (old new : List Reading) → new ≡ (file, Ok text) ∷ old → (error : OrderError)
    → IsFault text error → IsErrorOfOne IsFault file old new (order_fault error)
one_refused IsFault file text old new read (Failed failure) why = inr (text, read, why)
one_refused IsFault file text old new read (NotSquare n) why = (text, read, why)
one_refused IsFault file text old new read (NotColumn n) why = (text, read, why)
one_refused IsFault file text old new read (OutOfRange n k) why = (text, read, why)
one_refused IsFault file text old new read (Repeated n k) why = (text, read, why)
one_refused IsFault file text old new read (OtherLength n) why = (text, read, why)

module _ (IsFault : List ℕ → List ℕ → OrderError → Type 0) (a b first second : List ℕ)
    (old new : List Reading) (read : new ≡ (b, Ok second) ∷ (a, Ok first) ∷ old) where
  pub two_refused : (error : OrderError) → IsFault first second error
      → IsErrorOfTwo IsFault a b old new (order_fault error)
  two_refused (Failed failure) why = inr (inr (first, second, read, why))
  two_refused (NotSquare n) why = (first, second, read, why)
  two_refused (NotColumn n) why = (first, second, read, why)
  two_refused (OutOfRange n k) why = (first, second, read, why)
  two_refused (Repeated n k) why = (first, second, read, why)
  two_refused (OtherLength n) why = (first, second, read, why)
