-- The laws of the trait `Call` for tasks whose result is returned, as in InnerModulusLaws.
use Rattle.std.specs.Prelude.{◌≤◌, ℕ, ℤ, Option, refl}
use Rattle.std.proofs.Common.{inl, inr}
use Rattle.sparse_compressed.specs.Compressed.{Compressed}
use Rattle.sparse_c.specs.Moduli.{moduli, IsFaultModulo, IsNoneOf}
use Rattle.sparse_c.specs.Scalars.{modulo, residues_of}
use Rattle.sparse_c.specs.Tasks.{IsFaultOfTask, Returns}
use Rattle.sparse_c.specs.declared.handles.rings.tasks.Task.{Task}
use Rattle.c_arrays.specs.Refused.{IsOutOfMemoryOr}
use Rattle.c_arrays.specs.Statuses.{number_of}
use Rattle.c_arrays.specs.declared.refusal.Refusal.{Refusal}
use Rattle.c_arrays.specs.declared.refusal.Refusal.TheVariants.{UnknownChoice}

-- an error of a call over a ring is an error of a call with a modulus
fault_modulo : (Fault : Refusal → Type 0) (m : ℕ) (refusal : Refusal) → IsOutOfMemoryOr Fault refusal
    → IsOutOfMemoryOr (IsFaultModulo m Fault) refusal
fault_modulo Fault m refusal (inl memory) = inl memory
fault_modulo Fault m refusal (inr fault) = inr (inr fault)

pub returned_listed : (m : ℕ) (task : Task) (before after : Option (Compressed ℤ)) (status : ℤ)
    → m ≤ 9223372036854775808 → Returns (residues_of m) task before after status
    → Returns (modulo m) task before after status
returned_listed m task before after status short (inl done) = inl done
returned_listed m task before after status short (inr refused) = inr (
  refused.0,
  refused.1,
  fault_modulo (IsFaultOfTask task) m refused.0 refused.2,
  refused.3,
)

pub returned_unlisted : (m : ℕ) (task : Task) (before : Option (Compressed ℤ)) → IsNoneOf moduli m
    → Returns (modulo m) task before before (number_of UnknownChoice)
returned_unlisted m task before none = inr (UnknownChoice, refl, inr (inl (refl, none)), refl)
