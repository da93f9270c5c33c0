-- `empty` returns a null pointer.
use Rattle.std.proofs.Common.{◌≡◌, [], ◌∷◌, refl}
use mir.MapTy.{inst_fn}
use mir.Syntax.{a_type}
use base.Fml.{flft, ftrue}
use types.Kit.{‵, raw, ◌⊛◌, ◌$◌, ◌∵◌, !, qed, by, feq_i, keep, split, use0}
use types.Run.{lit, no_more, and_then, returns, enter}
use types.ByLocal.{alloc_all, pass_all, free_all, look_at, sets}
use types.Part.{agg}
use base.Logic.{emp}
use contract.Monad.{fact, fact_i}
use denote.Param.{layouts, param}
use denote.RattleType.{owns}
use denote.RawPtr.{Ptr, null_ptr}
use denote.Signature.{types_at}
use Rattle.std.specs.declared.option.Option.TheVariants.{None}
use Rattle.std.specs.declared.option.Option.{Option}
use Rattle.std.proofs.raw_atomic.Walks.{proved_at, leaves}
use Rattle.c_handles.proofs.HandleSteps.{pointer_in, word, word_good}
use Rattle.c_handles.specs.Owned.{owns_at}
use Rattle.c_handles.specs.contracts.block.Held.empty as f
use Rattle.c_handles.specs.contracts.block.Held.empty.Key.{name as #self}
use Rattle.c_handles.proofs.block.Held.empty.Statement.{statement}
use Rattle.c_handles.proofs.block.Held.empty.Code as code

pub empty_spec : {M : Type 1} → statement M
empty_spec 𝓤 𝓛 𝓜 𝓡 wired T L =
    let H = 𝓛.H in let En = f.ended T in let c = f.clauses T 𝓛 𝓜.mem 𝓡.returns in
    let inst = layouts (a_type ∷ []) (T, tt) in let fn = inst_fn inst code.function in
    proved_at 𝓛 En tt c 𝓜 𝓡 tt (#self inst) fn (code.unfolded 𝓤 H 𝓜 𝓡 wired (T, tt)) (λ z are.
    let κ = z.0.0.0 in let q = z.0.1.0 in let x : Option T.Denot = None in
    qed 𝓛 (((‵ (flft κ q) ⊛ ‵ ftrue) ⊛ ‵ (owns (types_at En.signature.params z.0.0) z.0.3 z.0.4))
    ∷ raw ((c z.0.0 z.0.3).requires z.1) ∷ []) ∵
    split ! $
    enter ! _ _ _ _ _ $ alloc_all ! (λ l. pass_all ! refl tt $
    sets ! (agg ! (and_then ! (lit ! tt) (no_more !))) refl (word_good null_ptr) $
    returns ! (look_at ! 0 refl) $ free_all ! refl $
    feq_i ! Ptr null_ptr null_ptr refl $ pointer_in ! null_ptr (owns_at (param 0 T) null_ptr x) $
    use0 𝓛 (raw (fact 𝓤 (x ≡ None))) (fact_i 𝓤 (x ≡ None) (emp 𝓤) refl) $
    keep ! (2 ∷ 3 ∷ 1 ∷ 0 ∷ []) $
    by ! (leaves 𝓛 En tt c z (word null_ptr) (record { at = null_ptr; value = x }) tt tt)))
