-- A look-up (`Found`) as an entry; adding a fact to an assertion of the separation logic. For
-- proofs by hand of functions that return an entry borrowed mutably.
use mathlib.Core.Path.{◌≡◌, refl}
use Prim.Native.Nat.{ℕ}
use seplogic.Ra.Ura.{Ura}
use base.Logic.{SProp, ent, sep, emp, via, emp∗, comm∗, mono_l, mono_r}
use contract.Monad.{fact, fact_i}
use Rattle.sparse_pattern.specs.SparseEntries.{entry_of_found, entry_name, found_name}
use Rattle.sparse_pattern.specs.declared.entry.Found.{Found}
use Rattle.sparse_pattern.specs.declared.entry.Found.TheVariants.{Value, Nothing}
use Rattle.sparse_pattern.specs.declared.entry.Missing.TheVariants.{OutOfBounds, NotStored}
use Rattle.sparse_compressed.specs.Compressed.{Compressed}
use Rattle.sparse_compressed.specs.Lanes.{Lane}
use Rattle.sparse_compressed.specs.Writing.{IsFoundAt, IsEntryMutOf}
use Rattle.sparse_compressed.specs.Writing.{IsLaneFoundAt, IsLaneEntryMutOf}

pub entry_name-found : {X : Type 0} (r : Found X) → found_name r ≡ entry_name (entry_of_found r)
entry_name-found (Value r) = refl
entry_name-found (Nothing OutOfBounds) = refl
entry_name-found (Nothing NotStored) = refl

pub IsEntryMutOf-found : {X : Type 0} (m : Compressed X) (i j : ℕ) (r : Found X) → IsFoundAt m i j r
    → IsEntryMutOf m i j (entry_of_found r)
IsEntryMutOf-found m i j (Value r) is = is
IsEntryMutOf-found m i j (Nothing OutOfBounds) is = is
IsEntryMutOf-found m i j (Nothing NotStored) is = is

pub IsLaneEntryMutOf-found : {X : Type 0} (l : Lane X) (j : ℕ) (r : Found X) → IsLaneFoundAt l j r
    → IsLaneEntryMutOf l j (entry_of_found r)
IsLaneEntryMutOf-found l j (Value r) is = is
IsLaneEntryMutOf-found l j (Nothing OutOfBounds) is = is
IsLaneEntryMutOf-found l j (Nothing NotStored) is = is

-- a fact that holds can be added to an assertion
pub with_fact : {M : Type 1} (𝓤 : Ura M) (φ : Type 0) (P : SProp 𝓤) → φ
    → ent 𝓤 P (sep 𝓤 P (sep 𝓤 (fact 𝓤 φ) (emp 𝓤)))
with_fact 𝓤 φ P x = via 𝓤 (sep 𝓤 (emp 𝓤) P) (emp∗ 𝓤 P)
    (via 𝓤 (sep 𝓤 P (emp 𝓤)) (comm∗ 𝓤 (emp 𝓤) P)
    (mono_r 𝓤 P (via 𝓤 (sep 𝓤 (emp 𝓤) (emp 𝓤)) (emp∗ 𝓤 (emp 𝓤))
    (mono_l 𝓤 (emp 𝓤) (fact_i 𝓤 φ (emp 𝓤) x)))))

pub with_facts : {M : Type 1} (𝓤 : Ura M) (φ ψ : Type 0) (P : SProp 𝓤) → φ → ψ
    → ent 𝓤 P (sep 𝓤 P (sep 𝓤 (fact 𝓤 φ) (fact 𝓤 ψ)))
with_facts 𝓤 φ ψ P x y = via 𝓤 (sep 𝓤 (emp 𝓤) P) (emp∗ 𝓤 P)
    (via 𝓤 (sep 𝓤 (fact 𝓤 ψ) P) (mono_l 𝓤 P (fact_i 𝓤 ψ (emp 𝓤) y))
    (via 𝓤 (sep 𝓤 P (fact 𝓤 ψ)) (comm∗ 𝓤 (fact 𝓤 ψ) P)
    (mono_r 𝓤 P (via 𝓤 (sep 𝓤 (emp 𝓤) (fact 𝓤 ψ)) (emp∗ 𝓤 (fact 𝓤 ψ))
    (mono_l 𝓤 (fact 𝓤 ψ) (fact_i 𝓤 φ (emp 𝓤) x))))))
