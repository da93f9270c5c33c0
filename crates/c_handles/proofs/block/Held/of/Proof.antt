-- `of` returns a handle with the pointer of the block.
use Rattle.std.proofs.Common.{◌≡◌, List, [], ◌∷◌, ◌++◌, refl}
use mir.MapTy.{inst_fn}
use mir.Syntax.{a_type}
use mir.Val.{Val}
use base.Fml.{flft, ftrue}
use base.Logic.{emp}
use prog.Wp.{WpFn}
use types.Kit.{‵, raw, ◌⊛◌, prop, ◌$◌, ◌∵◌, !, qed}
use types.Kit.{by, fjoin, fsplit, keep, move, regoal, join, split, use0}
use types.Run.{stop, fld, of_opd, no_more, and_then, returns, enter}
use types.ByLocal.{alloc_all, pass_all, free_all, look_at, get, get_in, sets}
use types.Part.{agg, sub, whole}
use contract.Monad.{fact, fact_i}
use contract.Running.{tables}
use denote.Exit.{no}
use denote.Param.{layouts, param}
use denote.RattleType.{RattleType, owns}
use denote.Signature.{types_at, plain}
use denote.Steps.{nothing}
use denote.Triple.Walked.{Stays, stay_dropped, walk_of}
use Rattle.core.proofs.alloc.Calls.{Goes-blank}
use Rattle.std.specs.declared.option.Option.TheVariants.{Some}
use Rattle.std.proofs.raw_atomic.Walks.{proved_at, leaves}
use Rattle.c_handles.proofs.HandleSteps.{pointer_good, pointer_in, pointer_out, word}
use Rattle.c_handles.proofs.HandleSteps.{word_good}
use Rattle.c_handles.specs.Owned.{in_block, owns_at}
use Rattle.c_handles.specs.contracts.block.Block as block
use Rattle.c_handles.specs.contracts.block.Held.of as f
use Rattle.c_handles.specs.contracts.block.Held.of.Key.{name as #self}
use Rattle.c_handles.proofs.block.Held.of.Statement.{statement}
use Rattle.c_handles.proofs.block.Held.of.Code as code

pub of_spec : {M : Type 1} → statement M
of_spec 𝓤 𝓛 𝓜 𝓡 wired T L =
    let H = 𝓛.H in let 𝓣 = tables 𝓤 H 𝓜 𝓡 𝓡.env in
    let R : RattleType = param 0 T in let B : RattleType = block.the_row R in
    let En = f.ended T in let c = f.clauses T 𝓛 𝓜.mem 𝓡.returns in
    let inst = layouts (a_type ∷ []) (T, tt) in let fn = inst_fn inst code.function in
    let hs : Stays En.signature.params En.kept = (stay_dropped (plain (λ _. B)) no, tt) in
    proved_at 𝓛 En hs c 𝓜 𝓡 (Goes-blank 𝓛 1 (plain (λ _. B)) no (λ κs x e. tt), tt)
    (#self inst) fn (code.unfolded 𝓤 H 𝓜 𝓡 wired (T, tt)) (λ z are.
    let κ = z.0.0.0 in let q = z.0.1.0 in let v = z.0.3.0 in let Post = (walk_of 𝓛 En hs c).post z in
    qed 𝓛 (((‵ (flft κ q) ⊛ ‵ ftrue) ⊛ ‵ (owns (types_at En.signature.params z.0.0) z.0.3 z.0.4))
    ∷ raw ((c z.0.0 z.0.3).requires z.1) ∷ []) ∵
    split ! $ split ! $ move ! (2 ∷ []) $ fsplit ! $
    pointer_out ! v.at (in_block R v.at v.value) z.0.4.0 (λ is.
    -- hypotheses: [the heap block; true; the token of the lifetime κ; true; the bound of κ]
    regoal ! (λ (vs : List Val). prop (WpFn 𝓤 H 𝓣.C 𝓣.Λ fn (vs ++ []) Post)) is refl $
    enter ! _ _ _ _ _ $
    alloc_all ! (λ l. pass_all ! refl (word_good v.at, tt) $
    sets ! (of_opd ! (get_in ! (fld ! refl (stop !)) (sub ! 0 refl (whole !)))) refl
    (pointer_good v.at) $
    sets ! (agg ! (and_then ! (get ! refl) (no_more !))) refl (word_good v.at) $
    pointer_in ! v.at (owns_at R v.at (Some v.value)) $
    use0 𝓛 (raw (fact 𝓤 (Some v.value ≡ Some v.value)))
    (fact_i 𝓤 (Some v.value ≡ Some v.value) (emp 𝓤) refl) $ nothing ! $ nothing ! $ fjoin ! $
    returns ! (look_at ! 0 refl) $ free_all ! refl $ move ! (4 ∷ 3 ∷ []) $ join ! $
    keep ! (0 ∷ 1 ∷ 3 ∷ 2 ∷ []) $
    by ! (leaves 𝓛 En hs c z (word v.at) (record { at = v.at; value = Some v.value })
    (tt, tt) (tt, tt)))))
