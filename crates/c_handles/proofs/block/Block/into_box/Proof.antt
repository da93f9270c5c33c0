-- `into_box` calls `Box::from_raw` with the pointer of the block.
use Rattle.std.proofs.Common.{◌≡◌, List, [], ◌∷◌, ◌++◌, refl, sym, ap, subst}
use base.Share
use mir.MapTy.{inst_fn}
use mir.Syntax.{a_type, dcons, dnil}
use mir.Val.{Val}
use base.Fml.{flft, ftrue}
use base.Logic.{SProp, emp, id⊢}
use contract.BorrowLft.{◌⊑◌}
use contract.Monad.{fact, fact_i}
use contract.Running.{tables}
use prog.Wp.{WpFn}
use types.Kit.{‵, raw, ◌⊛◌, some, later, at_ret, prop, ◌$◌, ◌∵◌, !, qed, by, await, drop}
use types.Kit.{feq_i, fjoin, fsplit, join, keep, move, pick, rewrite}
use types.Kit.{regoal, split, split3, use0, use1, use2}
use types.Run.{and_then, blocks, enter, exec, first, fld, no_more, of_opd, returns, stop}
use types.ByLocal.{alloc_all, env, free_all, get, get_in, lands_last, look_at, pass_all, sets}
use types.Part.{sub, whole}
use denote.Exit.{yes}
use denote.RattleType.{RattleType, owns}
use denote.RawPtr.{Ptr, ptr_val}
use denote.Signature.{plain, types_at}
use denote.Steps.{heard, nothing, only}
use denote.Param.{bounded, layout, param}
use denote.Param.Laws.{param_laws}
use denote.Triple.Call.{calls_at_last}
use denote.Triple.Clauses.{Lasts, lasts}
use denote.Triple.Spec.{triple_of}
use denote.Triple.Table.{framed}
use denote.Triple.Walked.{Stays, stay_dropped, walk_of, Goes-dropped}
use Rattle.core.proofs.alloc.Calls.{handle_tells}
use Rattle.core.proofs.alloc.Shapes.{after}
use Rattle.core.proofs.cell.Inside.{Good}
use Rattle.std.proofs.raw_atomic.Walks.{proved_at, leaves}
use Rattle.std_alloc.proofs.boxed.Box.from_raw.Met.{met}
use Rattle.std_alloc.specs.contracts.boxed.Box.from_raw as from_raw
use Rattle.std_heap.proofs.GlobalAllocator.TheImpl.Met.{passed}
use Rattle.std_heap.proofs.Global.TheLaws.{the_row_laws as global_laws}
use Rattle.std_heap.specs.contracts.Global.{the_row as global_row}
use Rattle.std_heap.specs.contracts.GlobalAllocator.TheImpl.{ghosts, dict}
use Rattle.std_heap.specs.declared.Global.{Global}
use Rattle.c_handles.specs.Owned.{in_block}
use Rattle.c_handles.proofs.HandleSteps.{pointer_good, pointer_out, word, word_good}
use Rattle.c_handles.proofs.HeapBox.{drop_goes, heap_laws, heap_row, no_drop}
use Rattle.c_handles.proofs.HeapBox.{static, Boxed, boxed}
use Rattle.c_handles.specs.contracts.block.Block as block
use Rattle.c_handles.specs.contracts.block.Block.into_box as f
use Rattle.c_handles.specs.contracts.block.Block.into_box.Key.{name as #self}
use Rattle.c_handles.proofs.block.Block.into_box.Statement.{statement}
use Rattle.c_handles.proofs.block.Block.into_box.Code as code

pub into_box_spec : {M : Type 1} → statement M
into_box_spec {M} 𝓤 𝓛 𝓜 𝓡 wired T L dx glue =
    let H = 𝓛.H in let 𝓣 = tables 𝓤 H 𝓜 𝓡 𝓡.env in
    let R : RattleType = param 0 T in let B : RattleType = block.the_row R in
    let Row : RattleType = Boxed R in
    let En = f.ended T dx in let c = f.clauses T dx 𝓛 𝓜.mem 𝓡.returns in
    let inst = bounded (a_type ∷ []) (T, tt) (dcons dx dnil) in
    let fn = inst_fn inst code.function in
    let hs : Stays En.signature.params En.kept = (
      stay_dropped (plain (λ _. B)) En.kept.0,
      (stay_dropped (plain (λ _. global_row)) En.kept.1.0, tt),
    ) in
    let Ce = from_raw.ended T heap_row ghosts dict no_drop in
    let k = triple_of 𝓛 (from_raw.signature T heap_row ghosts dict no_drop)
    (from_raw.spec T heap_row ghosts dict no_drop 𝓛 𝓜.mem 𝓡.returns) in
    let known = met 𝓤 𝓛 𝓜 𝓡 (code.calls-std_alloc::boxed::Box::from_raw 𝓡.env wired)
    T heap_row L heap_laws ghosts dict no_drop
    (passed 𝓡.env (code.calls-std_heap::GlobalAllocator::allocate 𝓡.env wired)
    (code.calls-std_heap::GlobalAllocator::deallocate 𝓡.env wired)
    (code.calls-std_heap::GlobalAllocator::grow 𝓡.env wired)
    (code.calls-std_heap::GlobalAllocator::shrink 𝓡.env wired) M 𝓤 𝓛 𝓜 𝓡)
    (drop_goes 𝓤 𝓛 𝓜 𝓡 (code.calls-c_handles::Destruct++none::drop 𝓡.env wired)) in
    proved_at 𝓛 En hs c 𝓜 𝓡 (
      Goes-dropped 𝓛 1 (plain (λ _. B)) yes (λ κs x w. refl),
      (Goes-dropped 𝓛 1 (plain (λ _. global_row)) yes (λ κs x w. refl), tt),
    )
    (#self inst) fn (code.unfolded 𝓤 H 𝓜 𝓡 wired (T, tt) dx) (λ z are.
    let κ = z.0.0.0 in let q = z.0.1.0 in let v = z.0.3.0 in let a : Global = z.0.3.1.0 in
    let Post : Val → SProp 𝓤 = (walk_of 𝓛 En hs c).post z in
    let l = Share.left q in let r = Share.right q in
    let halves = ‵ (flft κ l) ⊛ ‵ (flft κ r) ⊛ ‵ ftrue in
    let at : Ptr = v.at in
    qed 𝓛 (((‵ (flft κ q) ⊛ ‵ ftrue) ⊛ ‵ (owns (types_at En.signature.params z.0.0) z.0.3 z.0.4))
    ∷ raw ((c z.0.0 z.0.3).requires z.1) ∷ []) ∵
    split ! $ split ! $ move ! (2 ∷ []) $ fsplit ! $
    pointer_out ! at (in_block R at v.value) z.0.4.0 (λ eu. move ! (1 ∷ []) $ fsplit ! $
    handle_tells (record {
      row = global_row;
      laws = global_laws;
      g = ghosts;
      d = dict;
      drops = no_drop;
    })
    ! a z.0.4.1.0 (λ h eh fits.
    -- hypotheses: [the allocator; true; the heap block; the token of the lifetime κ; true; the bound of κ]
    regoal ! (λ (ws : List Val). prop (WpFn 𝓤 H 𝓣.C 𝓣.Λ fn (ws ++ (z.0.4.1.0 ++ [])) Post)) eu
    refl $
    regoal ! (λ (ws : List Val). prop (WpFn 𝓤 H 𝓣.C 𝓣.Λ fn (word at ∷ (ws ++ [])) Post)) eh refl $
    keep ! (3 ∷ 2 ∷ 0 ∷ 5 ∷ []) $
    let y : k.Ghost = (
      (
        (κ, (κ, tt)),
        (l, (r, tt)),
        tt,
        (a, (at, tt)),
        (h ∷ [], (ptr_val at ∷ [], tt)),
      ),
      v.value,
    ) in
    use1 𝓛 (‵ (flft κ l) ⊛ ‵ (flft κ r)) (𝓛.lfts.lft_split κ q) $ split ! $
    nothing ! $ move ! (2 ∷ 0 ∷ []) $ join ! $ move ! (1 ∷ 0 ∷ []) $ join ! $
    nothing ! $ feq_i ! (List Val) (ptr_val at ∷ []) (ptr_val at ∷ []) refl $ fjoin ! $
    move ! (3 ∷ 0 ∷ []) $ fjoin ! $ move ! (1 ∷ 0 ∷ []) $ join ! $ move ! (1 ∷ []) $
    use0 𝓛 (raw (fact 𝓤 (κ ⊑ heap_row.lives))) (fact_i 𝓤 (κ ⊑ heap_row.lives) (emp 𝓤)
    (static κ)) $ join ! $ move ! (2 ∷ []) $
    use1 𝓛 (raw (fact 𝓤 (κ ⊑ T.lives)) ⊛ ‵ ftrue) (id⊢ 𝓤 _) $ split ! $
    move ! (0 ∷ 2 ∷ []) $ join ! $ move ! (2 ∷ 0 ∷ []) $ join ! $
    use1 𝓛 (raw (k.pre y)) (id⊢ 𝓤 _) $
    enter ! _ _ _ _ _ $ alloc_all ! (λ l. pass_all ! refl (word_good at, (fits, tt)) $
    let Ev = env fn.locals l in
    sets ! (of_opd ! (get_in ! (fld ! refl (stop !)) (sub ! 0 refl (whole !)))) refl
    (pointer_good at) $ first ! $ blocks ! $
    calls_at_last ! (framed 𝓤 H 𝓜 𝓣) k known y
    (and_then ! (get ! refl) (and_then ! (get ! refl) (no_more !))) (λ u.
    use1 𝓛 (later (some (λ (d : Row.Denot). (halves ⊛ ‵ (Row.own_val d (u ∷ []))) ⊛
    some (λ (ls : Lasts Ce y.0.0 y.0.3). ‵ (lasts Ce y.0.0 y.0.3 ls)
    ⊛ (raw (fact 𝓤 (d.value ≡ v.value)) ⊛ raw (fact 𝓤 (d.alloc ≡ a)))))))
    (id⊢ 𝓤 _) $ await ! tt $ pick ! (λ d. split ! $ split ! $ split3 ! $
    use2 𝓛 (‵ (flft κ q)) (𝓛.lfts.lft_join κ q) $ join ! $
    -- hypotheses: [the token of κ; the box; what the call ensures]
    move ! (1 ∷ []) $
    handle_tells (boxed R (param_laws 0 T L)) ! d (u ∷ []) (λ w is good.
    rewrite ! 0 (λ (ws : List Val). ‵ (Row.own_val d ws)) (sym is) refl $
    let typed : Good (layout Row) u = subst (Good (layout Row)) (sym (ap only is)) good in
    move ! (2 ∷ []) $ pick ! (λ ls. split ! $ drop ! $ split ! $
    heard ! (d.value ≡ v.value) (λ same. drop ! $
    lands_last ! refl typed $ exec ! 𝓣.C 𝓣.Λ Ev (after 2 fn.body) (at_ret Ev Post) $
    sets ! (of_opd ! (get ! refl)) refl typed $
    returns ! (look_at ! 0 refl) $ free_all ! refl $
    use0 𝓛 (raw (fact 𝓤 (d.value ≡ v.value))) (fact_i 𝓤 (d.value ≡ v.value) (emp 𝓤) same) $
    nothing ! $ nothing ! $ fjoin ! $ nothing ! $ fjoin ! $ keep ! (3 ∷ 0 ∷ 2 ∷ 1 ∷ []) $
    by ! (leaves 𝓛 En hs c z u d (tt, (tt, tt)) (tt, (tt, tt))))))))))))
