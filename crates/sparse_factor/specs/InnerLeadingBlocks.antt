-- The search for the number of the first rows and columns that have factors, and the list of their triplets.
use Rattle.std.specs.Prelude.{◌≡◌, ◌≤◌, ◌&&◌, ℕ, Bool, nat_lt}
use Rattle.std.specs.Prelude.{if◌then◌else◌, List, [], ◌∷◌, ◌++◌}
use Rattle.std.specs.List.{flat_map}
use Rattle.sparse_algebra.specs.Algebra.{CommRing}
use Rattle.sparse_algebra.specs.Plain.{Plain}
use Rattle.sparse_coo_dense.specs.Coo.{Coo}
use Rattle.sparse_factor.specs.LeadingBlocks.{leading, HasFactorisation}

module _ (R : CommRing) {T : Type 0} (f : T → R.Carrier) where
  -- the first `low` rows and columns of a have a factorisation, and the first `high` have none
  pub record IsBetween (a : Plain R) (low high : ℕ) : Type 0 where
    pub order : low ≤ high
    pub within : high ≤ a.rows
    pub factors : HasFactorisation R f (leading R low a)
    pub none : HasFactorisation R f (leading R high a) → ⊥

module _ {T : Type 0} (n : ℕ) where
  -- whether a triplet lies in the first n rows and columns
  abbrev pub is_leading : ℕ × ℕ × T → Bool
  is_leading t = nat_lt t.0 n && nat_lt t.1 n

  -- the triplet, if it lies there
  abbrev pub one_leading : ℕ × ℕ × T → List (ℕ × ℕ × T)
  one_leading t = if is_leading t then t ∷ [] else []

  -- a list of n rows and columns, to which the leading triplets of `rest` are still to be appended
  pub record IsLeadingWithout (all rest : List (ℕ × ℕ × T)) (list : Coo T) : Type 0 where
    pub rows : list.nrows ≡ n
    pub cols : list.ncols ≡ n
    pub triplets : list.triplets ++ flat_map one_leading rest ≡ flat_map one_leading all
