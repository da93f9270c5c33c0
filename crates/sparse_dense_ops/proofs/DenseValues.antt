-- Dense and compressed matrices as plain matrices: where their values are and where they are zero.
use Rattle.std.proofs.Common.{◌≡◌, ℕ, ◌+◌, ◌*◌, ◌<◌, ◌≤◌, Bool, true, false, get_or, map, ap, sym}
use Rattle.std.proofs.Common.{◌∙◌, refl, arith}
use Rattle.std.specs.Prelude.{nat_lt}
use Rattle.std.proofs.Math.ListN.{get_or-map}
use Rattle.std.proofs.lemmas.Bool.Decides.{Decides-and, Decides-ltb}
use Rattle.sparse_algebra.specs.Algebra.{CommRing}
use Rattle.sparse_algebra.specs.Plain.{IsProper, IsWithin}
use Rattle.sparse_algebra.proofs.PlainLaws.{within_plain_of_triplets}
use Rattle.sparse_coo_dense.specs.Dense.{Dense, value_at}
use Rattle.sparse_coo_dense.specs.DensePlain.{is_inside, plain_of_dense}
use Rattle.sparse_compressed.specs.Compressed.{Compressed, IsSound, lane_triplets}
use Rattle.sparse_compressed.specs.PlainOfLanes.{plain_of_rows}
use Rattle.sparse_algebra.proofs.SumLemmas.{where_yes, where_no}
use Rattle.sparse_compressed.proofs.TripletBounds.{lane_triplets-inside}

pub miss : (b : Bool) → (b ≡ true → ⊥) → b ≡ false
miss true none = absurd (none refl)
miss false none = refl

module _ {T : Type 0} (d : Dense T) (i j : ℕ) where
  pub inside_parts : is_inside d i j ≡ true → (i < d.nrows) × (j < d.ncols)
  inside_parts = (Decides-and (nat_lt i d.nrows) (nat_lt j d.ncols) (Decides-ltb i d.nrows)
      (Decides-ltb j d.ncols)).0

  pub inside_both : i < d.nrows → j < d.ncols → is_inside d i j ≡ true
  inside_both row col = (Decides-and (nat_lt i d.nrows) (nat_lt j d.ncols)
      (Decides-ltb i d.nrows) (Decides-ltb j d.ncols)).1 (row, col)

module _ (R : CommRing) {T : Type 0} (f : T → R.Carrier) where
  pub dense_proper : (d : Dense T) → IsProper (plain_of_dense R f d)
  dense_proper d i j miss = where_no R (is_inside d i j) _ miss

  pub dense_within : (d : Dense T) → IsWithin (plain_of_dense R f d)
  dense_within d i j hit = inside_parts d i j hit

  pub rows_within : (m : Compressed T) → IsSound m → IsWithin (plain_of_rows R f m)
  rows_within m sound = within_plain_of_triplets R f m.pattern.major_dim m.pattern.minor_dim
      (lane_triplets m) (lane_triplets-inside m sound)

module _ (R : CommRing) {T : Type 0} (f : T → R.Carrier) (z : T) (zero : f z ≡ R.zero) where
  -- the value of a dense matrix inside its shape, and outside
  pub dense_inside : (d : Dense T) (i j : ℕ) → i < d.nrows → j < d.ncols
      → (plain_of_dense R f d).value i j ≡ f (value_at d i j z)
  dense_inside d i j row col = where_yes R (is_inside d i j) _ (inside_both d i j row col)
      ∙ ap (get_or (map f d.values) (j * d.nrows + i)) (sym zero)
      ∙ get_or-map f d.values (j * d.nrows + i) z

  pub dense_past_rows : (d : Dense T) (i j : ℕ) → d.nrows ≤ i
      → (plain_of_dense R f d).value i j ≡ R.zero
  dense_past_rows d i j le = dense_proper R f d i j (miss (is_inside d i j) (λ hit.
      omega (arith, le, (inside_parts d i j hit).0)))

  pub dense_past_cols : (d : Dense T) (i j : ℕ) → d.ncols ≤ j
      → (plain_of_dense R f d).value i j ≡ R.zero
  dense_past_cols d i j le = dense_proper R f d i j (miss (is_inside d i j) (λ hit.
      omega (arith, le, (inside_parts d i j hit).1)))
