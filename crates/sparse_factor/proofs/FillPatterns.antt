-- The fill of a matrix is a filled pattern, and it includes the lower triangle.
use Rattle.std.proofs.Common.{◌≡◌, ℕ, ◌≤◌, true, ◌&&◌, ap, sym, ◌∙◌, arith}
use Rattle.std.specs.Prelude.{nat_le}
use Rattle.std.proofs.lemmas.Bool.Decides.{nat_tests}
use Rattle.sparse_algebra.proofs.Cases.{and_parts}
use Rattle.sparse_algebra.specs.Algebra.{CommRing}
use Rattle.sparse_algebra.specs.Plain.{Plain}
use Rattle.sparse_pattern.specs.Raw.{Raw, IsEntry}
use Rattle.sparse_pattern.specs.TransposedPattern.{IsTransposedPattern}
use Rattle.sparse_compressed.specs.Compressed.{Compressed, IsSound}
use Rattle.sparse_compressed.specs.PlainOfLanes.{plain_of_cols}
use Rattle.sparse_factor.specs.Fill.{InFill, UpperBase, StoresByColumns}
use Rattle.sparse_factor.specs.Factorisations.{plain_upper}
use Rattle.sparse_factor.specs.InnerFactors.{IsFilledPattern, IsIncluded}
use Rattle.sparse_factor.proofs.FilledSets.{has_entry, entry_has}

pub is_le : (i j : ℕ) → nat_le i j ≡ true → i ≤ j
is_le i j h = grind (arith, nat_tests)

pub le_is : (i j : ℕ) → i ≤ j → nat_le i j ≡ true
le_is i j h = grind (arith, nat_tests)

module _ (a p : Raw) (stores : StoresByColumns (InFill (UpperBase a)) p) where
  -- the fill of an upper triangle has no pair above the diagonal
  fill_lower : (k i : ℕ) → IsEntry p k i → k ≤ i
  fill_lower k i place = is_le k i ((stores i k).0 place (λ i j. nat_le j i)
      (λ i j k _ _ _ le. le_is j i le) (λ i j base. le_is j i base.1))

  pub fill_pattern : p.minor_dim ≡ p.major_dim → IsFilledPattern p
  fill_pattern square = record {
    square = square;
    lower = fill_lower;
    closed = λ i j k here there lt le. (stores i j).1 (λ set closed holds.
        closed i j k ((stores i k).0 here set closed holds) ((stores j k).0 there set closed holds)
        lt le);
  }

  base_stored : (i j : ℕ) → UpperBase a i j → IsEntry p j i
  base_stored i j base = (stores i j).1 (λ set closed holds. holds i j base)

module _ (R : CommRing) {T : Type 0} (f : T → R.Carrier) (a u : Compressed T) (sa : IsSound a)
    (su : IsSound u) (upper : plain_of_cols R f u ≡ plain_upper R (plain_of_cols R f a)) where
  -- the entries of the transposed upper triangle are in the base
  pub lower_entries : (t : Compressed T) → IsTransposedPattern u.pattern t.pattern → (i j : ℕ)
      → IsEntry t.pattern j i → UpperBase a.pattern i j
  lower_entries t transposed i j place =
      let kept : ((plain_of_cols R f a).has j i && nat_le j i) ≡ true =
      sym (ap (λ (m : Plain R). m.has j i) upper)
      ∙ entry_has R f u su j i ((transposed.entries i j).0 place) in
      let parts = and_parts ((plain_of_cols R f a).has j i) (nat_le j i) kept in
      (has_entry R f a sa j i parts.0, is_le j i parts.1)

-- so the pattern of the fill includes them
pub lower_included : (a p t : Raw) → StoresByColumns (InFill (UpperBase a)) p
    → t.minor_dim ≡ p.minor_dim → t.major_dim ≡ p.major_dim
    → ((i j : ℕ) → IsEntry t j i → UpperBase a i j) → IsIncluded t p
lower_included a p t stores rows columns places = record {
  rows = rows;
  columns = columns;
  entries = λ i j place. base_stored a p stores i j (places i j place);
}
