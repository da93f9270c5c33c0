-- Proof by hand: `get_entry_mut` returns the value that `find_mut` borrows mutably, as an entry.
use Rattle.sparse_rows_cols.proofs.MutBorrowImports.{◌≡◌, refl, sym, ap, ◌∙◌, subst, List, [], ◌∷◌, Val, w64}
use Rattle.sparse_rows_cols.proofs.MutBorrowImports.{named, a_type, inst_fn, emp, id⊢, GName, ‵, raw, ◌⊛◌}
use Rattle.sparse_rows_cols.proofs.MutBorrowImports.{some, later, ◌$◌, ◌∵◌, !, qed, done, move, drop, use1}
use Rattle.sparse_rows_cols.proofs.MutBorrowImports.{split, join, fjoin, pick, await, rewrite, suffices}
use Rattle.sparse_rows_cols.proofs.MutBorrowImports.{frame, enter, addr, stop, no_more, and_then, returns}
use Rattle.sparse_rows_cols.proofs.MutBorrowImports.{alloc_all, pass_all, free_all, look_at, get, through}
use Rattle.sparse_rows_cols.proofs.MutBorrowImports.{sets, lands_as, fact, ◌⊑◌, tables, RattleType, usize}
use Rattle.sparse_rows_cols.proofs.MutBorrowImports.{yes, no, Is, shows, param, layouts, param_laws}
use Rattle.sparse_rows_cols.proofs.MutBorrowImports.{uint_vals, uint_Tells, mut_vals, mut_Tells, follows_if}
use Rattle.sparse_rows_cols.proofs.MutBorrowImports.{plain, named_lft, nothing, heard, peeks, calls_at}
use Rattle.sparse_rows_cols.proofs.MutBorrowImports.{Lasts, lasts, alive, on_entry, triple_of, framed, Stays}
use Rattle.sparse_rows_cols.proofs.MutBorrowImports.{walk_of, stay_dropped, Goes-dropped, Goes-spent_ref}
use Rattle.sparse_rows_cols.proofs.MutBorrowImports.{ends_at, proved, says_two, option_laws, option_row}
use mathlib.Core.Option as maybe
use Rattle.sparse_pattern.proofs.entry.Found.TheLaws.{the_row_laws as found_laws}
use Rattle.sparse_pattern.proofs.entry.SparseEntryMut.TheLaws.{the_row_laws as entry_laws}
use Rattle.sparse_pattern.specs.contracts.entry.Found.{the_row as found_row}
use Rattle.sparse_pattern.specs.contracts.entry.SparseEntryMut.{the_row as entry_row}
use Rattle.sparse_csr_csc.specs.contracts.csc.CscMatrix.{the_row as matrix_row}
use Rattle.sparse_pattern.specs.SparseEntries.{entry_of_found, entry_name, found_name}
use Rattle.sparse_compressed.specs.Compressed.{IsSound}
use Rattle.sparse_compressed.specs.Writing.{IsFoundAt, IsEntryMutOf, with_value}
use Rattle.sparse_compressed.proofs.FoundEntries.{entry_name-found, IsEntryMutOf-found, with_fact}
use Rattle.sparse_csr_csc.specs.contracts.csc.CscMatrix.get_entry_mut as f
use Rattle.sparse_csr_csc.proofs.csc.CscMatrix.get_entry_mut.Statement.{statement}
use Rattle.sparse_csr_csc.proofs.csc.CscMatrix.get_entry_mut.Code as code
use Rattle.sparse_csr_csc.specs.contracts.csc.CscMatrix.find_mut as g
use Rattle.sparse_csr_csc.proofs.csc.CscMatrix.find_mut.Met.{met as find_met}
use Rattle.sparse_pattern.specs.contracts.entry.into_entry as h
use Rattle.sparse_pattern.proofs.entry.into_entry.Met.{met as entry_met}

abbrev stayed : (T : RattleType) → Stays (f.ended T).signature.params (f.ended T).kept
stayed T = (stay_dropped _ no, (stay_dropped _ yes, (stay_dropped _ yes, tt)))

pub get_entry_mut_spec : {M : Type 1} → statement M
get_entry_mut_spec 𝓤 𝓛 𝓜 𝓡 wired T L =
    let c = f.clauses T 𝓛 𝓜.mem 𝓡.returns in let W = walk_of 𝓛 (f.ended T) (stayed T) c in let 𝓣 =
    tables 𝓤 𝓛.H 𝓜 𝓡 𝓡.env in
    let R = matrix_row (param 0 T) in
    let index = Goes-dropped 𝓛 2 (plain (λ _. usize)) yes (λ κs x f. refl) in
    proved 𝓛 (f.ended T) (stayed T) c 𝓜 𝓡 (
      Goes-spent_ref 𝓛 2 (0 ∷ []) tt (plain (λ _. R)),
      (index, (index, tt)),
    )
    (f.Key.name (layouts (a_type ∷ []) (T, tt)))
    (inst_fn (layouts (a_type ∷ []) (T, tt)) code.function)
    (code.unfolded 𝓤 𝓛.H 𝓜 𝓡 wired (T, tt))
    (λ κs. (mut_vals, (uint_vals w64, (uint_vals w64, tt))))
    (λ κs. (mut_Tells (named 0) κs.0 R, (uint_Tells w64, (uint_Tells w64, tt))))
    (λ κs qs bounds a _ are.
    let i = a.1.0 in let j = a.1.1.0 in
    let vss : List Val × (List Val × (List Val × Unit {0})) =
    (mut_vals a.0, (uint_vals w64 i, (uint_vals w64 j, tt))) in
    let y : W.Ghost = ((κs, qs, bounds, a, vss), tt) in
    let within = κs.1.0 ⊑ T.lives in
    let toks = raw (alive 𝓛 (f.signature T) κs qs) in
    let Got = found_row (named_lft 2 0 tt κs) (param 0 T) in
    let Entry = entry_row (named_lft 2 0 tt κs) (param 0 T) in
    let Out = option_row Entry in
    let G = triple_of 𝓛 (g.signature T) (g.spec T 𝓛 𝓜.mem 𝓡.returns) in
    let z : G.Ghost = ((κs, qs, bounds, a, vss), tt) in
    let FollowsIf = λ (m : maybe.Option GName). follows_if R (param 0 T) a.0.ghost_name m
    (with_value a.0.now j i) a.0.now in
    qed 𝓛 (raw (on_entry 𝓛 (f.signature T) κs qs a vss) ∷ (raw (fact 𝓤 within) ⊛ raw (emp 𝓤)) ∷ [])
    ∵ move ! (1 ∷ []) $ split ! $ heard ! _ (λ le. drop ! $
    use1 𝓛 (raw (G.pre z)) (with_fact 𝓤 within (on_entry 𝓛 (f.signature T) κs qs a vss) le) $
    enter ! _ _ _ _ _ $ alloc_all ! (λ l. pass_all ! refl
    ((tt, tt), ((tt, record { fits = are.1.0.1 }), ((tt, record { fits = are.1.1.0.1 }), tt))) $
    sets ! (addr ! (through ! refl (stop !))) refl (tt, tt) $
    calls_at ! (framed 𝓤 𝓛.H 𝓜 𝓣) G (find_met 𝓤 𝓛 𝓜 𝓡
    (code.calls-sparse_csr_csc::csc::CscMatrix::find_mut 𝓡.env wired) T L) z
    (and_then ! (get ! refl) (and_then ! (get ! refl) (and_then ! (get ! refl) (no_more !)))) (λ v.
    use1 𝓛 (later
    (some (λ (r : Got.Denot). (toks ⊛ ‵ (Got.own_val r (v ∷ []))) ⊛ some
    (λ (ws : Unit {0} × (Unit {0} × (Unit {0} × Unit {0}))). ‵ (lasts (g.ended T) κs a ws) ⊛
    (‵ (FollowsIf (found_name r)) ⊛ (raw (fact 𝓤 (IsFoundAt a.0.now j i r)) ⊛ raw
    (fact 𝓤 (IsSound a.0.now)))))))) (id⊢ 𝓤 _) $
    await ! tt $ pick ! (λ r. split ! $ split ! $ move ! (1 ∷ []) $ peeks ! Got (Is Got)
    (shows 𝓛 Got) r (v ∷ []) (λ is-got.
    move ! (2 ∷ []) $ pick ! (λ ws. split ! $ drop ! $ split ! $ move ! (1 ∷ []) $ split ! $ heard
    ! _ (λ found. heard ! _ (λ sound.
    -- hypotheses: the matrix follows what was found; what was found; the lifetime tokens
    lands_as ! refl refl
    (((found_laws (named_lft 2 0 tt κs) (param 0 T) (param_laws 0 T L)).lawful 𝓛).typed r (v ∷ [])
    is-got).0 $
    move ! (1 ∷ []) $ nothing ! $ move ! (1 ∷ 0 ∷ []) $ fjoin ! $ move ! (2 ∷ 0 ∷ []) $ join ! $
    let E = triple_of 𝓛 (h.signature T) (h.spec T 𝓛 𝓜.mem 𝓡.returns) in
    let x : E.Ghost = ((κs, qs, bounds, (r, tt), (v ∷ [], tt)), tt) in
    use1 𝓛 (raw (E.pre x)) (with_fact 𝓤 within
    (on_entry 𝓛 (h.signature T) κs qs (r, tt) (v ∷ [], tt)) le) $
    calls_at ! (framed 𝓤 𝓛.H 𝓜 𝓣) E (entry_met 𝓤 𝓛 𝓜 𝓡
    (code.calls-sparse_pattern::entry::into_entry 𝓡.env wired) T L) x
    (and_then ! (get ! refl) (no_more !)) (λ u.
    use1 𝓛 (later
    (some (λ (e : Out.Denot). (toks ⊛ ‵ (Out.own_val e (u ∷ []))) ⊛ some
    (λ (ws : Lasts (h.ended T) κs (r, tt)). ‵ (lasts (h.ended T) κs (r, tt) ws) ⊛ raw
    (fact 𝓤 (e ≡ entry_of_found r)))))) (id⊢ 𝓤 _) $
    await ! tt $ pick ! (λ e. split ! $ split ! $ move ! (1 ∷ []) $ peeks ! Out (Is Out)
    (shows 𝓛 Out) e (u ∷ []) (λ is-out.
    move ! (2 ∷ []) $ pick ! (λ ws'. split ! $ drop ! $ heard ! _ (λ same.
    -- hypotheses: the entry; the lifetime tokens; the matrix follows what was found
    lands_as ! refl refl
    (((option_laws Entry (entry_laws (named_lft 2 0 tt κs) (param 0 T) (param_laws 0 T L))).lawful
    𝓛).typed e (u ∷ []) is-out).0 $
    returns ! (look_at ! 0 refl) $ free_all ! refl $
    suffices ! _ (ends_at 𝓛 (f.ended T) (stayed T) c y u e (tt, (tt, (tt, tt)))
    (tt, (tt, (tt, tt)))) $
    nothing ! $ nothing ! $ fjoin ! $ nothing ! $ fjoin ! $ nothing ! $ fjoin ! $ join ! $ move !
    (1 ∷ 0 ∷ []) $ join ! $ frame ! $
    says_two !
    (subst (λ o. IsEntryMutOf a.0.now j i o) (sym same) (IsEntryMutOf-found a.0.now j i r found), sound) $
    rewrite ! 0 (λ (m : maybe.Option GName). ‵ (FollowsIf m)) (entry_name-found r ∙ ap entry_name (sym same)) refl
    $ done !))))))))))))))
