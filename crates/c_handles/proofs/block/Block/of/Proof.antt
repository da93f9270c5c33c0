-- `of` calls `Box::into_raw` and returns a block with its pointer, without the allocator of the box.
use Rattle.std.proofs.Common.{◌≡◌, List, [], ◌∷◌, ◌++◌, refl, ap}
use base.Share
use mir.MapTy.{inst_fn}
use mir.Syntax.{a_type, dcons, dnil}
use mir.Val.{Val}
use base.Fml.{flft, ftrue}
use base.Logic.{SProp, emp, id⊢}
use contract.BorrowLft.{◌⊑◌}
use contract.Monad.{fact, fact_i}
use contract.Running.{tables}
use prog.Wp.{WpFn}
use types.Kit.{‵, raw, ◌⊛◌, some, later, prop, ◌$◌, ◌∵◌, !, qed, by, await, drop}
use types.Kit.{feq_l, fjoin, fsplit, join, keep, move, pick}
use types.Kit.{regoal, split, split3, use0, use1, use2}
use types.Run.{and_then, enter, no_more, of_opd, returns}
use types.ByLocal.{alloc_all, free_all, get, lands_as, look_at, pass_all, sets}
use types.Part.{agg}
use denote.Exit.{no}
use denote.RattleType.{RattleType, owns}
use denote.RawPtr.{Ptr, RawPtr}
use denote.Signature.{plain, types_at}
use denote.Steps.{nothing, only}
use denote.Param.{bounded, param}
use denote.Param.Laws.{param_laws}
use denote.Triple.Call.{calls_at}
use denote.Triple.Clauses.{Lasts, lasts}
use denote.Triple.Spec.{triple_of}
use denote.Triple.Table.{framed}
use denote.Triple.Walked.{Stays, stay_dropped, walk_of}
use Rattle.core.proofs.alloc.Calls.{Goes-blank, handle_tells}
use Rattle.std.proofs.raw_atomic.Walks.{proved_at, leaves}
use Rattle.std_alloc.proofs.boxed.Box.into_raw.Met.{met}
use Rattle.std_alloc.specs.contracts.boxed.Box.into_raw as into_raw
use Rattle.std_heap.proofs.GlobalAllocator.TheImpl.Met.{passed}
use Rattle.std_heap.specs.contracts.GlobalAllocator.TheImpl.{ghosts, dict}
use Rattle.c_handles.specs.Owned.{in_block}
use Rattle.c_handles.proofs.HandleSteps.{pointer_good, pointer_in, word, word_good}
use Rattle.c_handles.proofs.HeapBox.{drop_goes, heap_laws, heap_row, no_drop}
use Rattle.c_handles.proofs.HeapBox.{static, Boxed, boxed}
use Rattle.c_handles.specs.contracts.block.Block.of as f
use Rattle.c_handles.specs.contracts.block.Block.of.Key.{name as #self}
use Rattle.c_handles.proofs.block.Block.of.Statement.{statement}
use Rattle.c_handles.proofs.block.Block.of.Code as code

pub of_spec : {M : Type 1} → statement M
of_spec {M} 𝓤 𝓛 𝓜 𝓡 wired T L dx glue =
    let H = 𝓛.H in let 𝓣 = tables 𝓤 H 𝓜 𝓡 𝓡.env in
    let R : RattleType = param 0 T in let B : RattleType = Boxed R in
    let En = f.ended T dx in let c = f.clauses T dx 𝓛 𝓜.mem 𝓡.returns in
    let inst = bounded (a_type ∷ []) (T, tt) (dcons dx dnil) in
    let fn = inst_fn inst code.function in
    let hs : Stays En.signature.params En.kept = (stay_dropped (plain (λ _. B)) no, tt) in
    let Ce = into_raw.ended T heap_row ghosts dict no_drop dx in
    let k = triple_of 𝓛 (into_raw.signature T heap_row ghosts dict no_drop dx)
    (into_raw.spec T heap_row ghosts dict no_drop dx 𝓛 𝓜.mem 𝓡.returns) in
    let known = met 𝓤 𝓛 𝓜 𝓡 (code.calls-std_alloc::boxed::Box::into_raw 𝓡.env wired)
    T heap_row L heap_laws ghosts dict no_drop dx
    (passed 𝓡.env (code.calls-std_heap::GlobalAllocator::allocate 𝓡.env wired)
    (code.calls-std_heap::GlobalAllocator::deallocate 𝓡.env wired)
    (code.calls-std_heap::GlobalAllocator::grow 𝓡.env wired)
    (code.calls-std_heap::GlobalAllocator::shrink 𝓡.env wired) M 𝓤 𝓛 𝓜 𝓡)
    (drop_goes 𝓤 𝓛 𝓜 𝓡 (code.calls-c_handles::Destruct++none::drop 𝓡.env wired)) glue in
    proved_at 𝓛 En hs c 𝓜 𝓡 (Goes-blank 𝓛 1 (plain (λ _. B)) no (λ κs x e. tt), tt) (#self inst) fn
    (code.unfolded 𝓤 H 𝓜 𝓡 wired (T, tt) dx) (λ z are.
    let κ = z.0.0.0 in let q = z.0.1.0 in let v = z.0.3.0 in
    let Post : Val → SProp 𝓤 = (walk_of 𝓛 En hs c).post z in
    let halves = ‵ (flft κ (Share.left q)) ⊛ ‵ (flft κ (Share.right q)) ⊛ ‵ ftrue in
    qed 𝓛 (((‵ (flft κ q) ⊛ ‵ ftrue) ⊛ ‵ (owns (types_at En.signature.params z.0.0) z.0.3 z.0.4))
    ∷ raw ((c z.0.0 z.0.3).requires z.1) ∷ []) ∵
    split ! $ split ! $ move ! (2 ∷ []) $ fsplit ! $
    handle_tells (boxed R (param_laws 0 T L)) ! v z.0.4.0 (λ w is fits.
    -- hypotheses: [the box; true; the token of the lifetime κ; true; the bound of κ]
    let y : k.Ghost = (
      (
        (κ, (κ, tt)),
        (Share.left q, (Share.right q, tt)),
        tt,
        (v, tt),
        (w ∷ [], tt),
      ),
      tt,
    ) in
    fjoin ! $ move ! (1 ∷ []) $
    use1 𝓛 (‵ (flft κ (Share.left q)) ⊛ ‵ (flft κ (Share.right q))) (𝓛.lfts.lft_split κ q) $
    split ! $ move ! (1 ∷ 3 ∷ []) $ join ! $ move ! (1 ∷ 0 ∷ []) $ join ! $ join ! $
    move ! (1 ∷ []) $ use1 𝓛 (raw (fact 𝓤 (κ ⊑ T.lives)) ⊛ ‵ ftrue) (id⊢ 𝓤 _) $ split ! $
    use0 𝓛 (raw (fact 𝓤 (κ ⊑ heap_row.lives))) (fact_i 𝓤 (κ ⊑ heap_row.lives) (emp 𝓤)
    (static κ)) $ move ! (0 ∷ 2 ∷ []) $ join ! $ move ! (1 ∷ 0 ∷ []) $ join ! $
    move ! (1 ∷ 0 ∷ []) $ join ! $ use1 𝓛 (raw (k.pre y)) (id⊢ 𝓤 _) $
    regoal ! (λ (vs : List Val). prop (WpFn 𝓤 H 𝓣.C 𝓣.Λ fn (vs ++ []) Post)) is refl $
    enter ! _ _ _ _ _ $ alloc_all ! (λ l. pass_all ! refl (fits, tt) $
    sets ! (of_opd ! (get ! refl)) refl fits $
    calls_at ! (framed 𝓤 H 𝓜 𝓣) k known y (and_then ! (get ! refl) (no_more !)) (λ u.
    use1 𝓛 (later (some (λ (p : Ptr). (halves ⊛ ‵ (RawPtr.own_val p (u ∷ []))) ⊛
    some (λ (ls : Lasts Ce y.0.0 y.0.3). ‵ (lasts Ce y.0.0 y.0.3 ls) ⊛ ‵ (in_block R p v.value)))))
    (id⊢ 𝓤 _) $ await ! tt $ pick ! (λ p. split ! $ split ! $ split3 ! $
    use2 𝓛 (‵ (flft κ q)) (𝓛.lfts.lft_join κ q) $ join ! $
    -- hypotheses: [the token of κ; the pointer; what the call ensures]
    move ! (1 ∷ []) $ feq_l ! (λ eu. move ! (1 ∷ []) $ pick ! (λ ls. split ! $ drop ! $
    lands_as ! (ap only eu) refl (pointer_good p) $
    sets ! (agg ! (and_then ! (get ! refl) (no_more !))) refl (word_good p) $
    returns ! (look_at ! 0 refl) $ free_all ! refl $
    pointer_in ! p (in_block R p v.value) $
    use0 𝓛 (raw (fact 𝓤 (v.value ≡ v.value))) (fact_i 𝓤 (v.value ≡ v.value) (emp 𝓤) refl) $
    nothing ! $ nothing ! $ fjoin ! $ keep ! (3 ∷ 0 ∷ 2 ∷ 1 ∷ []) $
    by ! (leaves 𝓛 En hs c z (word p) (record { at = p; value = v.value })
    (tt, tt) (tt, tt)))))))))
