-- The finished columns of a factor, each on the list of its parent's children.
use Rattle.std.proofs.Common.{◌≡◌, ℕ, ◌<◌, ◌≤◌, ◌⊎◌, inl, inr, ◌↔◌}
use Rattle.std.proofs.Common.{List, [], ◌∷◌, length, slice_index, Contains, replicate}
use Rattle.std.proofs.Common.{map, get_or, refl, ap, ◌∙◌, arith}
use Rattle.std.proofs.lemmas.Grind.{common_steps}
use Rattle.std.proofs.lemmas.List.{length-map, length-replicate}
use Rattle.sparse_pattern.specs.Raw.{raw_of}
use Rattle.sparse_pattern.proofs.BuiltLanes.{IsBuilt}
use Rattle.sparse_pattern.proofs.OffsetsInLanes.{indices_below}
use Rattle.sparse_factor.specs.Fill.{Filled, given}
use Rattle.sparse_factor.specs.InnerColumns.{IsInColumn, AreColumns, AreRowsBelow}
use Rattle.sparse_factor.specs.InnerChildren.{IsOnList, AreFalling, IsInTails}
use Rattle.sparse_factor.proofs.FillLaws.{IsParent, HaveParents, column_fill, child_filled}
use Rattle.sparse_factor.proofs.FillLaws.{low_filled, row_base}
use Rattle.sparse_factor.proofs.Children.{IsOnList-none, number_at}
use Rattle.sparse_factor.proofs.Runs.{lane_run, lane_entry}
use Rattle.sparse_factor.proofs.Alternatives.{both_ways}

-- the columns before j are those of the fill of a base, which has n columns and no row above the
-- diagonal; each is on the list of its parent
pub record AreMerged (base : ℕ → ℕ → Type 0) (n : ℕ) (offsets rows firsts nexts : List ℕ) (j : ℕ) :
    Type 0 where
  pub low : (i k : ℕ) → base i k → k ≤ i
  pub within : (i k : ℕ) → base i k → i < n
  pub built : IsBuilt n (λ k i. Filled base i k) j offsets rows
  pub first_count : length firsts ≡ n
  pub next_count : length nexts ≡ n
  pub falling : AreFalling nexts
  pub heads : (p : ℕ) → slice_index firsts p ≤ j
  pub parents : HaveParents base j
  pub listed : (k p : ℕ) → IsOnList nexts (slice_index firsts p) k ↔ ((k < j) × IsParent base k p)

pub zero_at : (n k : ℕ) → slice_index (replicate n 0) k ≡ 0
zero_at n k = grind (arith, common_steps, length-replicate {A = ℕ} n 0)

pub none_merged : {base : ℕ → ℕ → Type 0} {n : ℕ} {firsts nexts : List ℕ}
    → ((i k : ℕ) → base i k → k ≤ i) → ((i k : ℕ) → base i k → i < n)
    → firsts ≡ replicate n 0 → nexts ≡ replicate n 0
    → AreMerged base n (0 ∷ []) [] firsts nexts 0
none_merged {n = n} low within f l =
    let first = λ (k : ℕ). ap (λ xs. slice_index xs k) f ∙ zero_at n k in
    let link = λ (k : ℕ). ap (λ xs. slice_index xs k) l ∙ zero_at n k in
    record {
      low = low;
      within = within;
      built = record {
        valid = record {
          count = refl;
          first = refl;
          last = refl;
          lanes = λ i lt. absurd (omega arith);
        };
        entries = λ i j lt. absurd (omega arith);
      };
      first_count = ap length f ∙ length-replicate {A = ℕ} n 0;
      next_count = ap length l ∙ length-replicate {A = ℕ} n 0;
      falling = λ k. omega (arith, link k);
      heads = λ p. omega (arith, first p);
      parents = λ k q lt. absurd (omega arith);
      listed = λ k p. (
        λ r. absurd (IsOnList-none r (first p)),
        λ h. absurd (omega (arith, h.0)),
      );
    }

module _ {base : ℕ → ℕ → Type 0} {n : ℕ} {offsets rows firsts nexts : List ℕ} {j : ℕ}
    (are : AreMerged base n offsets rows firsts nexts j) where
  pub filled_within : (i k : ℕ) → Filled base i k → i < n
  filled_within i k f = let (r, b) = row_base f in are.within i r b

  pub column_has : (k i : ℕ) → k < j → IsInColumn offsets rows k i ↔ Filled base i k
  column_has k i lt =
      both_ways (lane_entry (raw_of j n offsets rows) k i lt) (are.built.entries k i lt)

  pub are_columns : AreColumns offsets rows
  are_columns =
      let valid = are.built.valid in
      record {
        runs = λ k lt. lane_run (raw_of j n offsets rows) k
            (valid.lanes k (omega (arith, valid.count)));
        low = λ k i lt h. low_filled base are.low
            ((column_has k i (omega (arith, valid.count))).0 h);
      }

  pub rows_below : AreRowsBelow n rows
  rows_below p lt = indices_below (raw_of j n offsets rows) are.built.valid p 0 lt

  -- the head of the list of column j, as it is read
  pub head_at : {C : Type 0} (f : C → ℕ) (heads : List C) → firsts ≡ map f heads → j < n
      → {head : ℕ} {x : C} → x ≡ get_or heads j x → head ≡ f x → head ≡ slice_index firsts j
  head_at f heads same lt read is =
      let long = length-map heads f in
      rw same (number_at f heads j (omega (arith, are.first_count, ap length same, long)) read is)

  -- the tails of the children of j and its base rows are column j of the fill
  pub merged_has : (own : List ℕ) → ((i : ℕ) → Contains own i ↔ base i j) → (i : ℕ)
      → (IsInTails offsets rows nexts (slice_index firsts j) i ⊎ Contains own i) ↔ Filled base i j
  merged_has own has i = (
    λ h. elim h [
      | inl tail ↦
          let (k, on_list, is_in) = tail in
          let (early, is) = (are.listed k j).0 on_list in
          child_filled base i j k is ((column_has k i early).0 is_in.0) is_in.1
      | inr mine ↦ given ((has i).0 mine)
    ],
    λ f. elim (column_fill base f are.parents) [
      | inl b ↦ inr ((has i).1 b)
      | inr child ↦
          let (c, early, is, g) = child in
          inl (
            c,
            (are.listed c j).1 (early, is),
            ((column_has c i early).1 g, omega (arith, early, low_filled base are.low f)),
          )
    ],
  )
