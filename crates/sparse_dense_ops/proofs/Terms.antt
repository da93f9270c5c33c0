-- Loops over a lane: the index and the value of an iteration, and the dot products and multiples of
-- the first n entries.
use Rattle.std.proofs.Common.{◌≡◌, ℕ, ◌+◌, ◌<◌, List, length, get_or, set, take, min, All, ap}
use Rattle.std.proofs.Common.{sym, subst, ◌∙◌, arith}
use Rattle.std.proofs.lemmas.List.{get_or_default, take_all}
use Rattle.sparse_algebra.specs.Algebra.{CommRing}
use Rattle.sparse_algebra.specs.Sums.{dot_of}
use Rattle.sparse_algebra.proofs.RingLemmas.{mul_zero}
use Rattle.sparse_compressed.proofs.AddedLanes.{lane_step, sum_zip_more}
use Rattle.sparse_dense_ops.specs.InnerKernels.{IsWrittenAt}
use Rattle.sparse_dense_ops.specs.SparseVectors.{AddsMultiple, sparse_elements}

-- k and v are the n-th index and value of a lane
pub record IsTerm {T : Type 0} (ks : List ℕ) (vs : List T) (n k : ℕ) (v : T) : Type 0 where
  pub in_indices : n < length ks
  pub in_values : n < length vs
  pub index : (d : ℕ) → k ≡ get_or ks n d
  pub value : (d : T) → v ≡ get_or vs n d

-- what holds of each index of a lane holds of that of the n-th entry
pub at_term : {T : Type 0} {ks : List ℕ} {vs : List T} {n k : ℕ} {v : T} → IsTerm ks vs n k v
    → (P : ℕ → Type 0) → All P ks → P k
at_term {n = n} term P all = subst P (sym (term.index 0)) (all n 0 term.in_indices)

-- the index and the value that an iteration reads are the n-th
pub term_of : {T : Type 0} {ks : List ℕ} {vs : List T} {n k : ℕ} {v : T}
    → (n < length ks) × (n < length vs) × ((d : ℕ) → k ≡ get_or ks n d)
    × ((d : T) → v ≡ get_or vs n d) → IsTerm ks vs n k v
term_of at = record { in_indices = at.0; in_values = at.1; index = at.2; value = at.3 }

-- s is the dot product of x and the first n values
pub record IsDot (R : CommRing) {T : Type 0} (f : T → R.Carrier) (ks : List ℕ) (vs : List T)
    (x : ℕ → R.Carrier) (n : ℕ) (s : R.Carrier) : Type 0 where
  pub is : s ≡ dot_of R f (take n ks) (take n vs) x

-- the multiple of the first n values is added to `start`
pub record HasAdded (R : CommRing) {T : Type 0} (f : T → R.Carrier) (z : T) (scale : R.Carrier)
    (ks : List ℕ) (vs : List T) (n : ℕ) (start row : List T) : Type 0 where
  pub is : AddsMultiple R f z scale (sparse_elements R f (take n ks) (take n vs)) start row

module _ {R : CommRing} {T : Type 0} {f : T → R.Carrier} {ks : List ℕ} {vs : List T} {n : ℕ} where
  -- adding the product of the n-th entry
  pub dot_more : {k : ℕ} {v : T} {x : ℕ → R.Carrier} {s new : R.Carrier} → IsTerm ks vs n k v
      → IsDot R f ks vs x n s → new ≡ R.add s (R.mul (f v) (x k)) → IsDot R f ks vs x (n + 1) new
  dot_more {k} {v} {x} term so_far added = record {
    is = added ∙ ap (λ s. R.add s (R.mul (f v) (x k))) so_far.is
        ∙ sym (sum_zip_more R (λ t. R.mul (f t.1) (x t.0)) ks vs n k v term.in_indices
        term.in_values (term.index k) (term.value v));
  }

  -- the dot product after the last entry is that of the lane
  pub dot_all : {x : ℕ → R.Carrier} {s : R.Carrier} → IsDot R f ks vs x n s
      → length vs ≡ length ks → n ≡ min (length ks) (length vs) → s ≡ dot_of R f ks vs x
  dot_all {x} so_far fits end = so_far.is
      ∙ ap (λ l. dot_of R f l (take n vs) x) (take_all n ks (omega (arith, fits, end)))
      ∙ ap (λ l. dot_of R f ks l x) (take_all n vs (omega (arith, fits, end)))

  -- adding the multiple of the n-th entry
  pub added_more : {k : ℕ} {v z : T} {scale : R.Carrier} {start row new : List T}
      → IsTerm ks vs n k v → HasAdded R f z scale ks vs n start row
      → IsWrittenAt R f z k (R.add (f (get_or row k z)) (R.mul scale (f v))) row new
      → length row ≡ length start → k < length start → HasAdded R f z scale ks vs (n + 1) start new
  added_more {k} {v} {z} {scale} {start} {row} {new} term so_far one same within =
      let inside : k < length row = omega (arith, within, same) in
      let more : AddsMultiple R f z scale (sparse_elements R f (take (n + 1) ks) (take (n + 1) vs))
      start (set row k (get_or new k z)) = λ j j_lt. lane_step R f scale ks vs row start z n k v
      (get_or row k z) (get_or new k z) term.in_indices term.in_values (term.index k)
      (term.value v) inside (get_or_default row k z (get_or row k z) inside) one.value
      (λ i i_lt. so_far.is i (omega (arith, same, i_lt))) j (omega (arith, same, j_lt)) in
      record { is = rw one.written more }

  -- the multiple that is added after the last entry is that of the lane
  pub added_all : {z : T} {scale : R.Carrier} {start row : List T}
      → HasAdded R f z scale ks vs n start row → length vs ≡ length ks
      → n ≡ min (length ks) (length vs)
      → AddsMultiple R f z scale (sparse_elements R f ks vs) start row
  added_all so_far fits end =
      rw (take_all n vs (omega (arith, fits, end)), take_all n ks (omega (arith, fits, end))) at
      so_far.is

-- before the first entry nothing is added
pub added_none : {R : CommRing} {T : Type 0} {f : T → R.Carrier} {z : T} {scale : R.Carrier}
    {ks : List ℕ} {vs row : List T} → HasAdded R f z scale ks vs 0 row row
added_none {R} {f = f} {z = z} {scale} {row = row} = record {
  is = λ j lt.
      sym (ap (R.add (f (get_or row j z))) (mul_zero R scale)
      ∙ R.laws.add_zero (f (get_or row j z)));
}
