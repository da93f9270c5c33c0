-- `into_block` returns `None` at a null pointer, and otherwise a block with the pointer of the handle.
use Rattle.std.proofs.Common.{◌≡◌, ℕ, List, [], ◌∷◌, ◌++◌, refl, sym, subst}
use lib.Dec.{lit<}
use seplogic.Ra.Ura.{Ura}
use mir.MapTy.{inst_fn}
use mir.Syntax.{a_type, Fn}
use mir.Val.{Val, of_list, has_ty}
use base.Logic.{SProp, ent, sep, emp}
use base.Fml.{flft, ftrue, fsep, Fml, Lft, Share}
use prog.Model.{Model}
use prog.Wp.{WpFn}
use types.Logic.{Logic, sem}
use types.Match.{live}
use types.Kit.{‵, raw, ◌⊛◌, at_ret, ◌$◌, ◌∵◌, !, qed, by, fjoin, fsplit, keep, move, split}
use types.Kit.{use0, use1}
use types.Run.{bin, lit, stop, fld, of_opd, no_more, and_then, first, skips, branches, exec, enter}
use types.Run.{returns, returns_within}
use types.ByLocal.{alloc_all, pass_all, free_all, look_at, get, get_in, sets, env}
use types.Part.{agg, sub, whole}
use contract.Monad.{fact, fact_i}
use contract.Lifetimes.{AllOutlive}
use contract.Running.{Running, tables}
use denote.Exit.{no}
use denote.RattleType.{RattleType, owns}
use denote.Param.{layout, layouts, param}
use denote.Signature.{types_at, plain}
use denote.RawPtr.{Ptr, block_ptr, null_ptr, Testable, tests_null}
use denote.Steps.{nothing}
use denote.Triple.Clauses.{Clauses, Ended}
use denote.Triple.Walked.{Stays, stay_dropped, walk_of}
use Rattle.core.proofs.alloc.Calls.{Goes-blank}
use Rattle.core.proofs.alloc.Shapes.{after}
use Rattle.core.proofs.option.Made.{Some-of, none_of}
use Rattle.core.specs.contracts.option.Option as OP
use Rattle.std.specs.declared.option.Option.{Option}
use Rattle.std.specs.declared.option.Option.TheVariants.{None, Some}
use Rattle.std.proofs.raw_atomic.Walks.{proved_at, leaves}
use Rattle.std_alloc.proofs.ResultValues.{and_tt}
use Rattle.c_handles.specs.Owned.{in_block, owns_at}
use Rattle.c_handles.proofs.HandleSteps.{pointer_in, pointer_out, word}
use Rattle.c_handles.proofs.HandleSteps.{word_good}
use Rattle.c_handles.proofs.HeldPointers.{at_pointer}
use Rattle.c_handles.specs.contracts.block.Block as block
use Rattle.c_handles.specs.contracts.block.Held.{the_row as held_row}
use Rattle.c_handles.specs.contracts.block.Held.into_block as f
use Rattle.c_handles.specs.contracts.block.Held.into_block.Key.{name as #self}
use Rattle.c_handles.proofs.block.Held.into_block.Statement.{statement}
use Rattle.c_handles.proofs.block.Held.into_block.Code as code

module _ {M : Type 1} {𝓤 : Ura M} (𝓛 : Logic 𝓤) (𝓜 : Model 𝓤 𝓛.H) (𝓡 : Running 𝓤 𝓛.H 𝓜) (T : RattleType)
  where
    open 𝓛 use {H}

    abbrev R : RattleType
    R = param 0 T

    abbrev Row : RattleType
    Row = block.the_row R

    abbrev En : Ended
    En = f.ended T

    abbrev stayed : Stays En.signature.params En.kept
    stayed = (stay_dropped (plain (λ _. held_row R)) no, tt)

    abbrev c : Clauses 𝓤 En
    c = f.clauses T 𝓛 𝓜.mem 𝓡.returns

    abbrev fn : Fn
    fn = inst_fn (layouts (a_type ∷ []) (T, tt)) code.function

    module _ (κ : Lft) (q : Share)
        (bounds : AllOutlive En.signature.lifetimes En.signature.outlives (κ, tt)) (p : Ptr)
        (us : List Val) where
      -- what the caller keeps: the token of the lifetime κ
      abbrev Kept : Fml
      Kept = fsep (flft κ q) ftrue

      abbrev bound : Option T.Denot → (walk_of 𝓛 En stayed c).Ghost
      bound x = (((κ, tt), (q, tt), bounds, (record { at = p; value = x }, tt), (us, tt)), tt)

      abbrev Post : Option T.Denot → Val → SProp 𝓤
      Post x = (walk_of 𝓛 En stayed c).post (bound x)

      abbrev Runs : Option T.Denot → Ptr → SProp 𝓤
      Runs x q = let 𝓣 = tables 𝓤 H 𝓜 𝓡 𝓡.env in WpFn 𝓤 H 𝓣.C 𝓣.Λ fn (word q ∷ []) (Post x)

      none : ent 𝓤 (sem 𝓛 Kept) (Runs None null_ptr)
      none =
          let x : Option T.Denot = None in
          qed 𝓛 (‵ Kept ∷ []) ∵ enter ! _ _ _ _ _ $
          alloc_all ! (λ l. pass_all ! refl (word_good null_ptr, tt) $
          sets ! (of_opd ! (get_in ! (fld ! refl (stop !)) (sub ! 0 refl (whole !)))) refl
          (tt, record { fits = lit< tt }) $
          sets ! (bin ! (get ! refl) (lit ! tt) (tests_null null_ptr (lit< tt))) refl (tt, tt) $
          first ! $ branches ! (get ! refl)
          (λ t. sets ! (agg ! (and_then ! (lit ! tt) (no_more !))) refl
          (tt, (record { fits = lit< tt }, tt)) $
          use0 𝓛 (‵ ((OP.the_row Row).own_val None (live 0 (of_list []) ∷ []))) (none_of 𝓛 Row) $
          use0 𝓛 (raw (fact 𝓤 (x ≡ x))) (fact_i 𝓤 (x ≡ x) (emp 𝓤) refl) $ nothing ! $
          nothing ! $ fjoin ! $
          returns_within ! (Post x) refl (look_at ! 0 refl) $ free_all ! refl $
          keep ! (3 ∷ 0 ∷ 2 ∷ 1 ∷ []) $
          by ! (leaves 𝓛 En stayed c (bound x) (live 0 (of_list [])) None (tt, tt) (tt, tt)))
          (λ t. absurd t))

      some_at : (x : T.Denot) (b o : ℕ) → Testable (block_ptr b o)
          → ent 𝓤 (sep 𝓤 (sem 𝓛 (in_block R (block_ptr b o) x)) (sem 𝓛 Kept))
          (Runs (Some x) (block_ptr b o))
      some_at x b o may =
          let 𝓣 = tables 𝓤 H 𝓜 𝓡 𝓡.env in let at : Ptr = block_ptr b o in
          let d : Row.Denot = record { at = at; value = x } in
          qed 𝓛 (‵ (in_block R at x) ∷ ‵ Kept ∷ []) ∵
          enter ! _ _ _ _ _ $ alloc_all ! (λ l. pass_all ! refl (word_good at, tt) $
          let Ev = env fn.locals l in
          sets ! (of_opd ! (get_in ! (fld ! refl (stop !)) (sub ! 0 refl (whole !)))) refl (tt, tt) $
          sets ! (bin ! (get ! refl) (lit ! tt) (tests_null at may)) refl (tt, tt) $
          first ! $ branches ! (get ! refl) (λ t. absurd t)
          (λ t. skips ! $ exec ! 𝓣.C 𝓣.Λ Ev (after 3 fn.body) (at_ret Ev (Post (Some x))) $
          sets ! (agg ! (and_then ! (get ! refl) (no_more !))) refl (word_good at) $
          sets ! (agg ! (and_then ! (lit ! tt) (and_then ! (get ! refl) (no_more !)))) refl (
            and_tt (has_ty (layout Row) (word at)) (word_good at).0,
            (record { fits = lit< tt }, ((word_good at).1, tt)),
          ) $
          pointer_in ! at (in_block R at x) $
          use1 𝓛 (‵ ((OP.the_row Row).own_val (Some d) (live 1 (of_list (word at ∷ [])) ∷ [])))
          (Some-of 𝓛 Row d (word at)) $
          use0 𝓛 (raw (fact 𝓤 (Some x ≡ Some x))) (fact_i 𝓤 (Some x ≡ Some x) (emp 𝓤) refl) $
          nothing ! $ nothing ! $ fjoin ! $
          returns ! (look_at ! 0 refl) $ free_all ! refl $ keep ! (3 ∷ 0 ∷ 2 ∷ 1 ∷ []) $
          by ! (leaves 𝓛 En stayed c (bound (Some x))
          (live 1 (of_list (word at ∷ []))) (Some d) (tt, tt) (tt, tt))))

pub into_block_spec : {M : Type 1} → statement M
into_block_spec 𝓤 𝓛 𝓜 𝓡 wired T L =
    let H = 𝓛.H in let 𝓣 = tables 𝓤 H 𝓜 𝓡 𝓡.env in
    let R : RattleType = param 0 T in
    let En = f.ended T in let c = f.clauses T 𝓛 𝓜.mem 𝓡.returns in
    let inst = layouts (a_type ∷ []) (T, tt) in let fn = inst_fn inst code.function in
    let hs : Stays En.signature.params En.kept = (stay_dropped (plain (λ _. held_row R)) no, tt) in
    proved_at 𝓛 En hs c 𝓜 𝓡 (Goes-blank 𝓛 1 (plain (λ _. held_row R)) no (λ κs x e. tt), tt)
    (#self inst) fn (code.unfolded 𝓤 H 𝓜 𝓡 wired (T, tt)) (λ z are.
    let κ = z.0.0.0 in let q = z.0.1.0 in let d = z.0.3.0 in let us : List Val = z.0.4.0 in
    let Post = (walk_of 𝓛 En hs c).post z in
    let Had = sep 𝓤 (sem 𝓛 (owns_at R d.at d.value)) (sem 𝓛 (fsep (flft κ q) ftrue)) in
    let Run = λ (ws : List Val). WpFn 𝓤 H 𝓣.C 𝓣.Λ fn ws Post in
    qed 𝓛 (((‵ (flft κ q) ⊛ ‵ ftrue) ⊛ ‵ (owns (types_at En.signature.params z.0.0) z.0.3 z.0.4))
    ∷ raw ((c z.0.0 z.0.3).requires z.1) ∷ []) ∵
    split ! $ move ! (1 ∷ []) $ fsplit ! $
    pointer_out ! d.at (owns_at R d.at d.value) us (λ eu.
    -- hypotheses: [what the handle owns; true; ..]
    keep ! (0 ∷ 2 ∷ []) $
    by ! (subst (λ (ws : List Val). ent 𝓤 Had (Run (ws ++ []))) (sym eu)
    (at_pointer 𝓛 R (fsep (flft κ q) ftrue) (λ x p. Runs 𝓛 𝓜 𝓡 T κ q z.0.2 d.at us x p)
    (none 𝓛 𝓜 𝓡 T κ q z.0.2 d.at us) (some_at 𝓛 𝓜 𝓡 T κ q z.0.2 d.at us) d.at d.value))))
