-- Proof by hand: `get_row_mut` returns a row of the storage that `cs_with_row` borrows mutably, or
-- `None` if it returns `None`.
use Rattle.sparse_rows_cols.proofs.MutBorrowImports.{refl, List, [], ◌∷◌, w64, named, a_type, Val, inst_fn}
use Rattle.sparse_rows_cols.proofs.MutBorrowImports.{◌$◌, !, done, move, join, fjoin, suffices, frame, usize}
use Rattle.sparse_rows_cols.proofs.MutBorrowImports.{yes, no, param, layouts, param_laws, uint_vals}
use Rattle.sparse_rows_cols.proofs.MutBorrowImports.{uint_Tells, mut_vals, mut_Tells, plain, named_lft}
use Rattle.sparse_rows_cols.proofs.MutBorrowImports.{nothing, alive, on_entry, triple_of, Lasts, Stays}
use Rattle.sparse_rows_cols.proofs.MutBorrowImports.{walk_of, stay_dropped, Goes-dropped, Goes-spent_ref}
use Rattle.sparse_rows_cols.proofs.MutBorrowImports.{ends_at, proved, says_three, option_laws, RattleType}
use Rattle.sparse_rows_cols.proofs.MutBorrowImports.{◌≡◌, ◌<◌, ◌⊑◌, lasts}
use base.Logic.{via}
use Rattle.sparse_compressed.specs.Compressed.{IsSound}
use Rattle.sparse_compressed.specs.Lanes.{lane_at}
use Rattle.sparse_compressed.specs.Writing.{with_lane}
use Rattle.sparse_compressed.proofs.FoundEntries.{with_facts}
use Rattle.sparse_csr_csc.proofs.OptionalLanes.{Code, Calls, returns_optional_lane}
use Rattle.sparse_rows_cols.proofs.row_mut.CsrRowMut.TheLaws.{the_row_laws as row_laws}
use Rattle.sparse_rows_cols.specs.RowWriting.{row_as_lane}
use Rattle.sparse_compressed.specs.contracts.CsMatrix.{the_row as core_row}
use Rattle.sparse_csr_csc.specs.contracts.csr.CsrMatrix.{the_row as matrix_row}
use Rattle.sparse_rows_cols.specs.contracts.row_mut.CsrRowMut.{the_row as row_row}
use Rattle.sparse_csr_csc.specs.contracts.csr.CsrMatrix.get_row_mut as f
use Rattle.sparse_csr_csc.proofs.csr.CsrMatrix.get_row_mut.Statement.{statement}
use Rattle.sparse_csr_csc.proofs.csr.CsrMatrix.get_row_mut.Code as code
use Rattle.sparse_csr_csc.specs.contracts.csr.CsrMatrix.cs_with_row as g
use Rattle.sparse_csr_csc.specs.contracts.csr.CsrMatrix.cs_with_row.Key as first
use Rattle.sparse_csr_csc.proofs.csr.CsrMatrix.cs_with_row.Met.{met as core_met}
use Rattle.sparse_rows_cols.specs.contracts.row_mut.CsrRowMut.of as h
use Rattle.sparse_rows_cols.specs.contracts.row_mut.CsrRowMut.of.Key as second
use Rattle.sparse_rows_cols.proofs.row_mut.CsrRowMut.of.Met.{met as of_met}

abbrev stayed : (T : RattleType) → Stays (f.ended T).signature.params (f.ended T).kept
stayed T = (stay_dropped _ no, (stay_dropped _ yes, tt))

pub get_row_mut_spec : {M : Type 1} → statement M
get_row_mut_spec 𝓤 𝓛 𝓜 𝓡 wired T L =
    let c = f.clauses T 𝓛 𝓜.mem 𝓡.returns in let W = walk_of 𝓛 (f.ended T) (stayed T) c in
    let P = param 0 T in let R = matrix_row P in let S = core_row P in
    let args = layouts (a_type ∷ []) (T, tt) in
    proved 𝓛 (f.ended T) (stayed T) c 𝓜 𝓡 (
      Goes-spent_ref 𝓛 2 (0 ∷ []) tt (plain (λ _. R)),
      (Goes-dropped 𝓛 2 (plain (λ _. usize)) yes (λ κs x f. refl), tt),
    )
    (f.Key.name args) (inst_fn args code.function) (code.unfolded 𝓤 𝓛.H 𝓜 𝓡 wired (T, tt))
    (λ κs. (mut_vals, (uint_vals w64, tt)))
    (λ κs. (mut_Tells (named 0) κs.0 R, (uint_Tells w64, tt))) (λ κs qs bounds a _ are.
    let s = a.0 in let i = a.1.0 in
    let vss : List Val × (List Val × Unit {0}) = (mut_vals s, (uint_vals w64 i, tt)) in
    let y : W.Ghost = ((κs, qs, bounds, a, vss), tt) in
    let within = κs.1.0 ⊑ T.lives in
    let Row = row_row (named_lft 2 0 tt κs) P in
    let row_lawful = row_laws (named_lft 2 0 tt κs) P (param_laws 0 T L) in
    let G = triple_of 𝓛 (g.signature T) (g.spec T 𝓛 𝓜.mem 𝓡.returns) in
    let E = triple_of 𝓛 (h.signature T) (h.spec T 𝓛 𝓜.mem 𝓡.returns) in
    let z : G.Ghost = ((κs, qs, bounds, a, vss), tt) in
    -- the types are those of the generated code
    let types : Code = record {
      matrix = _;
      written_matrix = _;
      core = _;
      written_core = _;
      option = _;
      lane = _;
      written_lane = _;
      first = first.name args;
      second = second.name args;
    } in
    let calls : Calls 𝓛 𝓜 𝓡 types = record {
      Matrix = R;
      Core = S;
      Element = P;
      Lane = Row;
      borrow = κs.0;
      self = s;
      index = i;
      is_index = are.1.0;
      tokens = alive 𝓛 (f.signature T) κs qs;
      Within = within;
      of_core = λ m. m;
      now = s.now;
      refilled = λ d. with_lane d i;
      Has = λ d. i < d.pattern.major_dim;
      IsLane = λ d w. row_as_lane w ≡ lane_at d i;
      IsGood = IsSound;
      name = λ w. w.values.ghost_name;
      LastOfFirst = Unit {0} × (Unit {0} × Unit {0});
      last_of_first = lasts (g.ended T) κs a;
      LastOfSecond = λ m. Lasts (h.ended T) κs (m, (i, tt));
      last_of_second = λ m. lasts (h.ended T) κs (m, (i, tt));
      lane_typed = λ w v is. ((row_lawful.lawful 𝓛).typed w (v ∷ []) is).0;
      option_typed = λ r v is. let typed = (((option_laws Row row_lawful).lawful 𝓛).typed r (v ∷ [])
          is).0 in (typed, typed);
    } in
    returns_optional_lane 𝓛 𝓜 𝓡 types calls (on_entry 𝓛 (f.signature T) κs qs a vss) (W.post y)
    (core_met 𝓤 𝓛 𝓜 𝓡 (code.calls-sparse_csr_csc::csr::CsrMatrix::cs_with_row 𝓡.env wired) T L z)
    (λ le m has.
    let x : E.Ghost = ((κs, qs, bounds, (m, (i, tt)), (mut_vals m, (uint_vals w64 i, tt))), tt) in
    via 𝓤 (E.pre x) (with_facts 𝓤 within (i < m.now.pattern.major_dim)
    (on_entry 𝓛 (h.signature T) κs qs (m, (i, tt)) (mut_vals m, (uint_vals w64 i, tt))) le has)
    (of_met 𝓤 𝓛 𝓜 𝓡 (code.calls-sparse_rows_cols::row_mut::CsrRowMut::of 𝓡.env wired) T L x))
    -- hypotheses: the row, if there is one; the lifetime tokens; the matrix follows the values of
    -- the row
    (λ r v inside is-lane sound.
    suffices ! _ (ends_at 𝓛 (f.ended T) (stayed T) c y v r (tt, (tt, tt)) (tt, (tt, tt))) $
    nothing ! $ nothing ! $ fjoin ! $ nothing ! $ fjoin ! $ join ! $ move ! (1 ∷ 0 ∷ []) $ join ! $
    frame ! $ says_three ! (inside, is-lane, sound) $ done !))
