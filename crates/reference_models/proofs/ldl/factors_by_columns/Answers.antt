use Rattle.std.proofs.Common.{◌≡◌, ◌++◌, take, drop, length, ap, sym, subst, ◌∙◌, arith}
use Rattle.std.proofs.Math.Seq.{take-append_seam}
use Rattle.sparse_coo_dense.specs.Dense.{HasValues}
use Rattle.reference_models.specs.DenseFactors.{AreDenseFactorsOf}
use Rattle.reference_models.proofs.Equations.{all_factors, no_factors_yet, none_at_all}
use Rattle.reference_models.proofs.ldl.factors_by_columns.Goals as goal

pub find_columns-requires : goal.find_columns-requires
find_columns-requires g c =
    let z = g.T.Zero.zero_value in
    let a = c.args.a.now in
    let values : HasValues a.nrows a.nrows (λ _ _ _. z) c.in_ok-l.l =
    subst (λ n. HasValues a.nrows n (λ _ _ _. z) c.in_ok-l.l) c.nrows-2.ensures
    (subst (λ n. HasValues n c.nrows-2.result (λ _ _ _. z) c.in_ok-l.l) c.nrows.ensures
    c.in_ok-l.ensures) in
    let count : length c.deref_mut.result.now ≡ a.nrows =
    omega (arith, c.deref_mut.ensures.len, c.in_ok-d.ensures.len, c.nrows-3.ensures) in
    record {
      start = no_factors_yet g.T.Ring.ring g.T.Ring.value z g.met.T.Ring.zero_law a c.in_ok-l.l
          c.deref_mut.result.now c.requires values count;
    }

pub returns-then-find_columns : goal.returns-then-find_columns
returns-then-find_columns g c =
    let R = g.T.Ring.ring in
    let f = g.T.Ring.value in
    let z = g.T.Zero.zero_value in
    let a = c.args.a.now in
    let d = c.find_columns.new.d in
    let rest = drop (length d) c.in_ok-d.d.items in
    let first = c.find_columns.ensures.factors c.if-find_columns.true in
    let same : c.in_ok-d.d.len ≡ length d =
    omega (arith, c.in_ok-d.ensures.len, c.nrows-3.ensures, first.size.pivots) in
    let whole : take c.in_ok-d.d.len (d ++ rest) ≡ d =
    ap (λ n. take n (d ++ rest)) same ∙ take-append_seam d rest in
    subst (AreDenseFactorsOf R f z a c.find_columns.new.l) (sym whole)
    (all_factors R f z g.met.T.Ring.zero_law a c.find_columns.new.l d first)

pub returns-else-find_columns : goal.returns-else-find_columns
returns-else-find_columns g c =
    none_at_all g.T.Ring.ring g.T.Ring.value g.T.Zero.zero_value g.met.T.Ring.zero_law c.args.a.now
    (c.find_columns.ensures.none c.if-find_columns.false)
