-- `of` returns a handle with the pointer, which owns the same block.
use Rattle.std.proofs.Common.{◌≡◌, refl}
use base.Logic.{emp}
use contract.Monad.{fact_i}
use Rattle.c_handles.proofs.Moving.{moves}
use Rattle.c_handles.specs.Owned.{owns_at}
use Rattle.c_handles.specs.Rows.{matrix_row}
use Rattle.c_handles.specs.contracts.block.Held.{the_row as held_row}
use Rattle.c_handles.specs.contracts.handle.MatrixHandle.{the_row as handle_row}
use Rattle.c_handles.specs.contracts.handle.MatrixHandleHandle.of as f
use Rattle.c_handles.proofs.handle.MatrixHandleHandle.of.Statement.{statement}
use Rattle.c_handles.proofs.handle.MatrixHandleHandle.of.Code as code

pub of_spec : {M : Type 1} → statement M
of_spec 𝓤 𝓛 𝓜 𝓡 wired =
    moves (held_row matrix_row) handle_row 𝓛 𝓜 𝓡 (f.clauses 𝓛 𝓜.mem 𝓡.returns) (λ d. d.at)
    (λ d. owns_at matrix_row d.at d.value) (λ d. record { at = d.at; value = d.value })
    (λ d vs. refl) (λ d vs. refl) (λ κs x w. refl) (λ y. (tt, tt))
    (λ y. fact_i 𝓤 (y.0.3.0.value ≡ y.0.3.0.value) (emp 𝓤) refl) _ _ f.Key.name
    (code.unfolded 𝓤 𝓛.H 𝓜 𝓡 wired)
