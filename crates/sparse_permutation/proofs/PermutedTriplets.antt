-- The plain matrix of triplets whose rows and columns are renumbered, or exchanged.
use Rattle.std.proofs.Common.{◌≡◌, ℕ, ◌<◌, suc, Bool, true, false, List, [], ◌∷◌}
use Rattle.std.proofs.Common.{length, map, get_or, ap, sym, ◌∙◌, refl, arith}
use Rattle.std.specs.Prelude.{nat_eq, nat_lt, ◌&&◌, ◌||◌, All}
use Rattle.std.specs.List.{list_any}
use Rattle.std.proofs.lemmas.Bool.Decides.{Decides-eqb}
use Rattle.std.proofs.lemmas.List.Elements.{All-map}
use Rattle.sparse_compressed.specs.Compressed.{transposed}
use Rattle.sparse_algebra.specs.Algebra.{CommRing}
use Rattle.sparse_algebra.specs.Sums.{sum_by, where_true}
use Rattle.sparse_algebra.specs.Plain.{is_at, plain_of_triplets, plain_transpose}
use Rattle.sparse_algebra.proofs.Cases.{and_both, and_parts}
use Rattle.sparse_algebra.proofs.RingLemmas.{zero_add}
use Rattle.sparse_algebra.proofs.PlainLemmas.{same_plain, same_bool, and_comm}
use Rattle.sparse_permutation.specs.Permutations.{IsOrder, IsInverse}
use Rattle.sparse_permutation.specs.PermutedPlain.{plain_permuted}
use Rattle.sparse_permutation.specs.InnerRenumbered.{renumbered}
use Rattle.sparse_permutation.proofs.Orders.{order_below}
use Rattle.sparse_permutation.proofs.PermutedPlain.{is_below, below_is}

-- ---- lists of which a function is applied to each element

module _ {X : Type 0} (move : X → X) where
  any-moved : (guard : Bool) (s t : X → Bool) (xs : List X)
      → All (λ x. s (move x) ≡ (guard && t x)) xs → list_any s (map move xs) ≡ (guard && list_any t xs)
  any-moved true s t [] same = refl
  any-moved false s t [] same = refl
  any-moved true s t (x ∷ xs) same = ap (λ b. b || list_any s (map move xs)) (same 0 x (omega arith))
      ∙ ap (λ b. t x || b) (any-moved true s t xs (λ k d less. same (suc k) d (omega arith)))
  any-moved false s t (x ∷ xs) same =
      ap (λ b. b || list_any s (map move xs)) (same 0 x (omega arith))
      ∙ any-moved false s t xs (λ k d less. same (suc k) d (omega arith))

  sum-moved : (R : CommRing) (guard : Bool) (s t : X → Bool) (f : X → R.Carrier)
      → ((x : X) → f (move x) ≡ f x) → (xs : List X) → All (λ x. s (move x) ≡ (guard && t x)) xs
      → sum_by R (λ x. where_true R (s x) (f x)) (map move xs)
      ≡ where_true R guard (sum_by R (λ x. where_true R (t x) (f x)) xs)
  sum-moved R true s t f kept [] same = refl
  sum-moved R false s t f kept [] same = refl
  sum-moved R true s t f kept (x ∷ xs) same =
      let rest = sum-moved R true s t f kept xs (λ k d less. same (suc k) d (omega arith)) in
      ap (λ c. R.add (where_true R (s (move x)) c)
      (sum_by R (λ x. where_true R (s x) (f x)) (map move xs))) (kept x)
      ∙ ap (λ b. R.add (where_true R b (f x))
      (sum_by R (λ x. where_true R (s x) (f x)) (map move xs))) (same 0 x (omega arith))
      ∙ ap (R.add (where_true R (t x) (f x))) rest
  sum-moved R false s t f kept (x ∷ xs) same =
      let rest = sum-moved R false s t f kept xs (λ k d less. same (suc k) d (omega arith)) in
      ap (λ b. R.add (where_true R b (f (move x)))
      (sum_by R (λ x. where_true R (s x) (f x)) (map move xs))) (same 0 x (omega arith))
      ∙ zero_add R _ ∙ rest

and_cross : (a x b y : Bool) → ((a && x) && (b && y)) ≡ ((a && b) && (x && y))
and_cross true x true y = refl
and_cross true true false y = refl
and_cross true false false y = refl
and_cross false x b y = refl

-- ---- permuted triplets

module _ {p q : List ℕ} (inverse : IsInverse p q) (order : IsOrder q) where
  -- an index is moved to i exactly if i is inside and the index is p i
  moved_to : (r i : ℕ) → r < length p
      → nat_eq (get_or q r 0) i ≡ (nat_lt i (length p) && nat_eq r (get_or p i 0))
  moved_to r i less = same_bool _ _
      (λ h.
      let here : get_or q r 0 ≡ i = (Decides-eqb (get_or q r 0) i).0 h in
      let inside = order_below order r (omega (arith, inverse.count)) in
      and_both _ _ (is_below i (length p) (omega (arith, inverse.count, here)))
      ((Decides-eqb r (get_or p i 0)).1 (sym (inverse.right r less) ∙ ap (λ k. get_or p k 0) here)))
      (λ h.
      let both = and_parts _ _ h in
      let here : r ≡ get_or p i 0 = (Decides-eqb r (get_or p i 0)).0 both.1 in
      (Decides-eqb (get_or q r 0) i).1
      (ap (λ k. get_or q k 0) here ∙ inverse.left i (below_is i (length p) both.0)))

  moved_at : {T : Type 0} (i j : ℕ) (t : ℕ × ℕ × T) → t.0 < length p → t.1 < length p
      → is_at i j (renumbered q t) ≡ ((nat_lt i (length p) && nat_lt j (length p))
      && is_at (get_or p i 0) (get_or p j 0) t)
  moved_at i j t row col =
      ap (λ b. b && nat_eq (get_or q t.1 0) j) (moved_to t.0 i row)
      ∙ ap (λ b. (nat_lt i (length p) && nat_eq t.0 (get_or p i 0)) && b) (moved_to t.1 j col)
      ∙ and_cross (nat_lt i (length p)) (nat_eq t.0 (get_or p i 0)) (nat_lt j (length p))
      (nat_eq t.1 (get_or p j 0))

  module _ (R : CommRing) {T : Type 0} (f : T → R.Carrier) (ts : List (ℕ × ℕ × T)) where
    renumbered_square : All (λ t. (t.0 < length p) × (t.1 < length p)) ts
        → plain_of_triplets R f (length p) (length p) (map (renumbered q) ts)
        ≡ plain_permuted R p (plain_of_triplets R f (length p) (length p) ts)
    renumbered_square inside =
        let n = length p in
        let all : (i j : ℕ) → All (λ t. is_at i j (renumbered q t) ≡ ((nat_lt i n && nat_lt j n)
        && is_at (get_or p i 0) (get_or p j 0) t)) ts = λ i j k d less.
        let at = inside k d less in
        moved_at i j (get_or ts k d) at.0 at.1 in
        same_plain (plain_of_triplets R f n n (map (renumbered q) ts))
        (plain_permuted R p (plain_of_triplets R f n n ts)) refl refl
        (λ i j. any-moved (renumbered q) (nat_lt i n && nat_lt j n) (is_at i j)
        (is_at (get_or p i 0) (get_or p j 0)) ts (all i j))
        (λ i j. sum-moved (renumbered q) R (nat_lt i n && nat_lt j n) (is_at i j)
        (is_at (get_or p i 0) (get_or p j 0)) (λ t. f t.2) (λ t. refl) ts (all i j))

    -- triplets whose indices are renumbered by the inverse represent the permuted matrix
    pub plain_of_renumbered : (rows cols : ℕ) → rows ≡ length p → cols ≡ length p
        → All (λ t. (t.0 < rows) × (t.1 < cols)) ts
        → plain_of_triplets R f rows cols (map (renumbered q) ts)
        ≡ plain_permuted R p (plain_of_triplets R f rows cols ts)
    plain_of_renumbered rows cols row_count col_count inside = rw (row_count, col_count)
        (renumbered_square (λ k d less.
        let at = inside k d less in
        (omega (arith, row_count, at.0), omega (arith, col_count, at.1))))

-- ---- transposed triplets

pub plain_of_transposed : (R : CommRing) {T : Type 0} (f : T → R.Carrier) (rows cols : ℕ)
    (ts : List (ℕ × ℕ × T))
    → plain_of_triplets R f cols rows (map transposed ts)
    ≡ plain_transpose R (plain_of_triplets R f rows cols ts)
plain_of_transposed R f rows cols ts =
    let all : (i j : ℕ) → All (λ t. is_at i j (transposed t) ≡ (true && is_at j i t)) ts =
    λ i j k d less. and_comm (nat_eq (get_or ts k d).1 i) (nat_eq (get_or ts k d).0 j) in
    same_plain (plain_of_triplets R f cols rows (map transposed ts))
    (plain_transpose R (plain_of_triplets R f rows cols ts)) refl refl
    (λ i j. any-moved transposed true (is_at i j) (is_at j i) ts (all i j))
    (λ i j. sum-moved transposed R true (is_at i j) (is_at j i) (λ t. f t.2) (λ t. refl) ts (all i j))

pub transposed_inside : {T : Type 0} (n m : ℕ) (ts : List (ℕ × ℕ × T))
    → All (λ t. (t.0 < n) × (t.1 < m)) ts → All (λ t. (t.0 < m) × (t.1 < n)) (map transposed ts)
transposed_inside n m ts inside = All-map (λ t. (t.0 < m) × (t.1 < n)) transposed ts
    (λ k d less. let at = inside k d less in (at.1, at.0))
