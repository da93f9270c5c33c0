-- Cases of a handle's pointer: what holds of an empty handle at null, and of a handle with a value at a pointer into a
-- block, holds of every handle. Assumes `Logic`.
use Rattle.std.proofs.Common.{ℕ, [], ◌∷◌, sym, subst}
use seplogic.Ra.Ura.{Ura}
use mir.Raw.{raw as bare}
use base.Logic.{SProp, ent, sep, via, fst∗, snd∗, never, never_e}
use base.Fml.{Fml}
use base.Fraction.{full_share}
use types.Logic.{Logic, sem}
use types.Kit.{‵, ◌∵◌, !, qed, by, feq_l}
use contract.Monad.{fact_use}
use denote.RattleType.{RattleType}
use denote.Memory.{lone}
use denote.RawPtr.{Ptr, block_ptr, null_ptr, Testable, lies_at}
use Rattle.std.specs.declared.option.Option.{Option}
use Rattle.std.specs.declared.option.Option.TheVariants.{None, Some}
use Rattle.std_heap.proofs.GlobalToken.{dealloc_token-Testable}
use Rattle.std_heap.specs.contracts.GlobalAllocator.TheImpl.{ghosts}
use Rattle.c_handles.specs.Owned.{heap, in_block, owns_at}

module _ {M : Type 1} {𝓤 : Ura M} (𝓛 : Logic 𝓤) (R : RattleType) (F : Fml)
    (Runs : Option R.Denot → Ptr → SProp 𝓤) where
  abbrev Had : Option R.Denot → Ptr → SProp 𝓤
  Had x q = sep 𝓤 (sem 𝓛 (owns_at R q x)) (sem 𝓛 F)

  abbrev token : Ptr → SProp 𝓤
  token q = sem 𝓛 (ghosts.dealloc_token heap (bare (lone R.mir)) q)

  module _ (none : ent 𝓤 (sem 𝓛 F) (Runs None null_ptr))
      (some_at : (x : R.Denot) (b o : ℕ) → Testable (block_ptr b o)
      → ent 𝓤 (Had (Some x) (block_ptr b o)) (Runs (Some x) (block_ptr b o))) where
    -- a handle with a value is not null
    at_block : (x : R.Denot) (q : Ptr) → Testable q → ent 𝓤 (Had (Some x) q) (Runs (Some x) q)
    at_block x (block_ptr b o) may = some_at x b o may
    at_block x null_ptr may =
        via 𝓤 (never 𝓤) (via 𝓤 (sem 𝓛 (in_block R null_ptr x))
        (fst∗ 𝓤 (sem 𝓛 (in_block R null_ptr x)) (sem 𝓛 F))
        (fst∗ 𝓤 (never 𝓤) (token null_ptr))) (never_e 𝓤 (Runs (Some x) null_ptr))

    pub at_pointer : (p : Ptr) (x : Option R.Denot) → ent 𝓤 (Had x p) (Runs x p)
    at_pointer p None =
        qed 𝓛 (‵ (owns_at R p None) ∷ ‵ F ∷ []) ∵ feq_l ! (λ e.
        by ! (subst (λ (q : Ptr). ent 𝓤 (sem 𝓛 F) (Runs None q)) (sym e) none))
    at_pointer p (Some x) =
        fact_use 𝓤 (Testable p) (via 𝓤 (token p) (via 𝓤 (sem 𝓛 (in_block R p x))
        (fst∗ 𝓤 (sem 𝓛 (in_block R p x)) (sem 𝓛 F))
        (snd∗ 𝓤 (sem 𝓛 (lies_at R full_share p x)) (token p)))
        (dealloc_token-Testable 𝓛 heap (bare (lone R.mir)) p)) (λ may. at_block x p may)
