-- Proof by hand: `at_mut` borrows one value mutably from the slice that `values_mut` borrows.
use Rattle.sparse_rows_cols.proofs.MutBorrowImports.{◌≡◌, refl, sym, subst, List, [], ◌∷◌, length, Val, ◌<◌}
use Rattle.sparse_rows_cols.proofs.MutBorrowImports.{w64, named, a_type, inst_fn, emp, id⊢, flft, ftrue, ‵}
use Rattle.sparse_rows_cols.proofs.MutBorrowImports.{raw, ◌⊛◌, some, later, ◌$◌, ◌∵◌, !, qed, done, move}
use Rattle.sparse_rows_cols.proofs.MutBorrowImports.{drop, use1, use2, split, join, fjoin, pick, await}
use Rattle.sparse_rows_cols.proofs.MutBorrowImports.{rewrite, suffices, frame, enter, addr, stop, no_more}
use Rattle.sparse_rows_cols.proofs.MutBorrowImports.{and_then, returns, alloc_all, pass_all, free_all}
use Rattle.sparse_rows_cols.proofs.MutBorrowImports.{look_at, get, through, sets, lands_as, fact, ◌⊑◌, Lfts}
use Rattle.sparse_rows_cols.proofs.MutBorrowImports.{Shares, tables, RattleType, Array, usize, yes, no, Is}
use Rattle.sparse_rows_cols.proofs.MutBorrowImports.{shows, param, layouts, uint_vals, uint_Tells}
use Rattle.sparse_rows_cols.proofs.MutBorrowImports.{uint_Makes, MutBor, MutRef, mut_vals, mut_Tells}
use Rattle.sparse_rows_cols.proofs.MutBorrowImports.{mut_Lawful, MutSlice, mut_slice_Lawful, follows}
use Rattle.sparse_rows_cols.proofs.MutBorrowImports.{follows_then, plain, named_lft, nothing, heard, owned}
use Rattle.sparse_rows_cols.proofs.MutBorrowImports.{peeks, calls_at, Lasts, lasts, on_entry, triple_of}
use Rattle.sparse_rows_cols.proofs.MutBorrowImports.{framed, Stays, walk_of, says, stay_dropped}
use Rattle.sparse_rows_cols.proofs.MutBorrowImports.{Goes-dropped, Goes-spent_ref, ends_at, proved}
use Rattle.sparse_rows_cols.proofs.MutBorrowImports.{slice_set, slice_index_or}
use Rattle.sparse_compressed.proofs.FoundEntries.{with_fact, with_facts}
use Rattle.sparse_rows_cols.specs.contracts.col_mut.CscColMut.{the_row}
use Rattle.sparse_rows_cols.specs.ColWriting.{col_with_values}
use Rattle.sparse_rows_cols.specs.contracts.col_mut.CscColMut.at_mut as f
use Rattle.sparse_rows_cols.proofs.col_mut.CscColMut.at_mut.Statement.{statement}
use Rattle.sparse_rows_cols.proofs.col_mut.CscColMut.at_mut.Code as code
use Rattle.sparse_rows_cols.specs.contracts.col_mut.CscColMut.values_mut as g
use Rattle.sparse_rows_cols.proofs.col_mut.CscColMut.values_mut.Met.{met as values_met}
use Rattle.sparse_compressed.specs.contracts.writing.element_mut as h
use Rattle.sparse_compressed.proofs.writing.element_mut.Met.{met as at_met}

abbrev stayed : (T : RattleType) → Stays (f.ended T).signature.params (f.ended T).kept
stayed T = (stay_dropped _ no, (stay_dropped _ yes, tt))

pub at_mut_spec : {M : Type 1} → statement M
at_mut_spec 𝓤 𝓛 𝓜 𝓡 wired T L =
    let c = f.clauses T 𝓛 𝓜.mem 𝓡.returns in let W = walk_of 𝓛 (f.ended T) (stayed T) c in let 𝓣 =
    tables 𝓤 𝓛.H 𝓜 𝓡 𝓡.env in
    let P = param 0 T in
    proved 𝓛 (f.ended T) (stayed T) c 𝓜 𝓡 (
      Goes-spent_ref 𝓛 3 (0 ∷ []) tt
          (plain (λ κs. the_row (named_lft 3 1 tt κs) P)),
      (Goes-dropped 𝓛 3 (plain (λ _. usize)) yes (λ κs x f. refl), tt),
    )
    (f.Key.name (layouts (a_type ∷ []) (T, tt)))
    (inst_fn (layouts (a_type ∷ []) (T, tt)) code.function)
    (code.unfolded 𝓤 𝓛.H 𝓜 𝓡 wired (T, tt))
    (λ κs. (mut_vals, (uint_vals w64, tt)))
    (λ κs. (mut_Tells (named 0) κs.0 (the_row (named_lft 3 1 tt κs) P), (uint_Tells w64, tt)))
    (λ κs qs bounds a _ are.
    let x = a.0 in let k = a.1.0 in
    let vss : List Val × (List Val × Unit {0}) = (mut_vals x, (uint_vals w64 k, tt)) in
    let y : W.Ghost = ((κs, qs, bounds, a, vss), tt) in
    let within = κs.1.1.0 ⊑ T.lives in
    let tok-self = ‵ (flft κs.0 qs.0) in let tok-a = ‵ (flft κs.1.0 qs.1.0) in let tok-T =
    ‵ (flft κs.1.1.0 qs.1.1.0) ⊛ raw (emp 𝓤) in
    let R = the_row (named_lft 3 1 tt κs) P in
    let Out = MutRef (named 0) κs.0 P in
    let Got = MutSlice (named 0) κs.0 P in
    let G = triple_of 𝓛 (g.signature T) (g.spec T 𝓛 𝓜.mem 𝓡.returns) in
    let z : G.Ghost = ((κs, qs, bounds, (x, tt), (mut_vals x, tt)), tt) in
    qed 𝓛 (((tok-self ⊛ (tok-a ⊛ tok-T)) ⊛ ‵ ((MutRef (named 0) κs.0 R).own_val x (mut_vals x)) ⊛ ‵
    (usize.own_val k (uint_vals w64 k)) ⊛ ‵ ftrue)
    ∷ (raw (fact 𝓤 within) ⊛ raw (fact 𝓤 (k < length x.now.values.now))) ∷ []) ∵ move ! (1 ∷ []) $
    split ! $ heard ! _ (λ le. heard ! _ (λ below.
    split ! $ move ! (1 ∷ []) $ split ! $ move ! (1 ∷ []) $ split ! $ drop ! $ move !
    (1 ∷ 2 ∷ 0 ∷ []) $
    move ! (2 ∷ []) $ drop ! $ nothing ! $ move ! (1 ∷ 0 ∷ []) $ fjoin ! $ move ! (1 ∷ 0 ∷ []) $
    join ! $
    use1 𝓛 (raw (G.pre z)) (with_fact 𝓤 within
    (on_entry 𝓛 (g.signature T) κs qs (x, tt) (mut_vals x, tt)) le) $
    enter ! _ _ _ _ _ $ alloc_all ! (λ l. pass_all ! refl
    ((tt, tt), ((tt, record { fits = are.1.0.1 }), tt)) $
    sets ! (addr ! (through ! refl (stop !))) refl (tt, tt) $
    calls_at ! (framed 𝓤 𝓛.H 𝓜 𝓣) G (values_met 𝓤 𝓛 𝓜 𝓡
    (code.calls-sparse_rows_cols::col_mut::CscColMut::values_mut 𝓡.env wired) T L) z
    (and_then ! (get ! refl) (no_more !)) (λ v.
    use1 𝓛 (later
    (some (λ (r : Got.Denot). ((tok-self ⊛ (tok-a ⊛ tok-T)) ⊛ ‵ (Got.own_val r (v ∷ []))) ⊛ some
    (λ (ws : Unit {0} × Unit {0}). ‵ (lasts (g.ended T) κs (x, tt) ws) ⊛
    (‵ (follows R (Array P 0) x.ghost_name r.ghost_name (col_with_values x.now)) ⊛ raw
    (fact 𝓤 (r.now ≡ x.now.values.now))))))) (id⊢ 𝓤 _) $
    await ! tt $ pick ! (λ r. split ! $ split ! $ move ! (1 ∷ []) $ peeks ! Got (Is Got)
    (shows 𝓛 Got) r (v ∷ []) (λ is-got.
    move ! (2 ∷ []) $ pick ! (λ ws. split ! $ drop ! $ split ! $ move ! (1 ∷ []) $ heard ! _
    (λ same.
    -- hypotheses: the column follows the slice; the slice; the lifetime tokens
    lands_as ! refl refl ((mut_slice_Lawful 𝓛 (named 0) κs.0 P).typed r (v ∷ []) is-got).0 $
    move ! (2 ∷ []) $ split ! $ move ! (1 ∷ []) $ split ! $ move ! (2 ∷ 1 ∷ []) $ join ! $
    -- hypotheses: two tokens; the token of the column's own lifetime; the column follows the slice;
    -- the slice
    nothing ! $ owned ! usize _ (uint_Makes 𝓛 w64) k _ (refl, are.1.0.1) $ fjoin ! $ move !
    (4 ∷ 0 ∷ []) $ fjoin ! $ move ! (1 ∷ 0 ∷ []) $ join ! $
    let E = triple_of 𝓛 (h.signature T) (h.spec T 𝓛 𝓜.mem 𝓡.returns) in
    let κs' : Lfts 2 = (κs.0, (κs.1.1.0, tt)) in let qs' : Shares 2 = (qs.0, (qs.1.1.0, tt)) in
    let e : E.Ghost = (
      (κs', qs', (bounds.1.0, tt), (r, (k, tt)), (v ∷ [], (uint_vals w64 k, tt))),
      tt,
    ) in
    use1 𝓛 (raw (E.pre e)) (with_facts 𝓤 within (k < length r.now)
    (on_entry 𝓛 (h.signature T) κs' qs' (r, (k, tt)) (v ∷ [], (uint_vals w64 k, tt))) le
    (subst (λ xs. k < length xs) (sym same) below)) $
    calls_at ! (framed 𝓤 𝓛.H 𝓜 𝓣) E (at_met 𝓤 𝓛 𝓜 𝓡
    (code.calls-sparse_compressed::writing::element_mut 𝓡.env wired) T L) e
    (and_then ! (get ! refl) (and_then ! (get ! refl) (no_more !))) (λ u.
    use1 𝓛 (later
    (some (λ (w : MutBor P.Denot). ((tok-self ⊛ tok-T) ⊛ ‵ (Out.own_val w (u ∷ []))) ⊛ some
    (λ (ws' : Lasts (h.ended T) κs' (r, (k, tt))). ‵ (lasts (h.ended T) κs' (r, (k, tt)) ws') ⊛
    (‵ (follows (Array P 0) P r.ghost_name w.ghost_name (λ t. slice_set r.now k t)) ⊛ raw
    (fact 𝓤 (w.now ≡ slice_index_or r.now k w.now))))))) (id⊢ 𝓤 _) $
    await ! tt $ pick ! (λ w. split ! $ split ! $ move ! (1 ∷ []) $ peeks ! Out (Is Out)
    (shows 𝓛 Out) w (u ∷ []) (λ is-out.
    move ! (2 ∷ []) $ pick ! (λ ws'. split ! $ drop ! $ split ! $ move ! (1 ∷ []) $ heard ! _
    (λ value.
    -- hypotheses: the slice follows the value; the value; two tokens; the token of the column's own
    -- lifetime; the column follows the slice
    lands_as ! refl refl ((mut_Lawful 𝓛 (named 0) κs.0 P).typed w (u ∷ []) is-out).0 $ move !
    (4 ∷ 0 ∷ []) $
    use2 𝓛 (‵ (follows R P x.ghost_name w.ghost_name
    (λ t. col_with_values x.now (slice_set r.now k t))))
    (follows_then 𝓛 R (Array P 0) P (col_with_values x.now) (λ t. slice_set r.now k t)
    x.ghost_name r.ghost_name w.ghost_name) $
    rewrite ! 0 (λ (xs : List P.Denot). ‵ (follows R P x.ghost_name w.ghost_name
    (λ t. col_with_values x.now (slice_set xs k t)))) same refl $
    returns ! (look_at ! 0 refl) $ free_all ! refl $ move ! (1 ∷ 2 ∷ 3 ∷ 0 ∷ []) $
    suffices ! _ (ends_at 𝓛 (f.ended T) (stayed T) c y u w (tt, (tt, tt)) (tt, (tt, tt))) $
    nothing ! $ nothing ! $ fjoin ! $ nothing ! $ fjoin ! $ join ! $
    move ! (1 ∷ []) $ split ! $ move ! (3 ∷ 1 ∷ []) $ join ! $ move ! (1 ∷ 0 ∷ []) $ join ! $ join !
    $ frame ! $
    says ! (subst (λ (xs : List P.Denot). w.now ≡ slice_index_or xs k w.now) same value) $ done
    !))))))))))))))
