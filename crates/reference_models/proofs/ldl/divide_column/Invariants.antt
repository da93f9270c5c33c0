use Rattle.std.proofs.Common.{◌≡◌, ℕ, ◌*◌, ◌<◌, length}
use Rattle.sparse_coo_dense.specs.DensePlain.{plain_of_dense}
use Rattle.reference_models.specs.InnerEquations.{left_at}
use Rattle.reference_models.proofs.ldl.divide_column.Given as goal

abbrev pub invariant-loop-i : goal.invariant-loop-i
invariant-loop-i g l =
    let R = g.T.Ring.ring in
    let f = g.T.Ring.value in
    record {
      rows : l.l.nrows ≡ l.initial.l.nrows;
      cols : l.l.ncols ≡ l.initial.l.ncols;
      full : length l.l.values ≡ l.l.nrows * l.l.ncols;
      divided : (k : ℕ) → l.j < k → k < l.i → (plain_of_dense R f l.l).value k l.j
          ≡ R.mul (left_at R f g.T.Zero.zero_value l.a l.initial.l l.d l.j k) (f l.inverse);
      kept : (k c : ℕ) → (c ≡ l.j → l.j < k → k < l.i → ⊥)
          → (plain_of_dense R f l.l).value k c ≡ (plain_of_dense R f l.initial.l).value k c;
    }
