-- Folds over the triplets of a block: at a pair within the block a single triplet counts.
use Rattle.std.proofs.Common.{◌≡◌, ℕ, zero, suc, ◌+◌, ◌*◌, ◌<◌, ◌≢◌, inl, inr, false}
use Rattle.std.proofs.Common.{List, [], ◌∷◌, ◌++◌, Option, Some, None, length, get_or, map, ap, sym}
use Rattle.std.proofs.Common.{◌∙◌, refl, arith}
use Rattle.std.specs.Prelude.{slice_get}
use Rattle.std.specs.List.{flat_map}
use Rattle.std.specs.Option.{option_to_list}
use Rattle.std.proofs.lemmas.Bool.{cases_eq}
use Rattle.std.proofs.lemmas.Bool.Decides.{nat_tests}
use Rattle.std.proofs.lemmas.List.{get_or_default}
use Rattle.std.proofs.lemmas.Nat.{mul-add-lt}
use Rattle.std.proofs.lemmas.Option.{slice_get_read}
use Rattle.nalgebra_sparse.specs.Plain.{is_at, below}
use Rattle.nalgebra_sparse.specs.Dense.{Dense}
use Rattle.nalgebra_sparse.specs.Blocks.{triplet_at, block_triplets}

-- the values f x of a list's elements, combined by op, with e at the end
abbrev pub fold_by : {M X : Type 0} → M → (M → M → M) → (X → M) → List X → M
fold_by e op f [] = e
fold_by e op f (x ∷ xs) = op (f x) (fold_by e op f xs)

not_at : {T : Type 0} (i j a b : ℕ) (v : T) → (a ≡ i → b ≡ j → ⊥) → is_at i j (a, b, v) ≡ false
not_at i j a b v miss = elim (cases_eq a i) [
  | inl x ↦ elim (cases_eq b j) [
    | inl y ↦ absurd (miss x y)
    | inr y ↦ grind (arith, nat_tests)
  ]
  | inr x ↦ grind (arith, nat_tests)
]

module _ {M : Type 0} (e : M) (op : M → M → M) (left : (x : M) → op e x ≡ x)
    (right : (x : M) → op x e ≡ x) (assoc : (x y z : M) → op (op x y) z ≡ op x (op y z)) where
  fold_by-append : {X : Type 0} (f : X → M) (xs ys : List X)
      → fold_by e op f (xs ++ ys) ≡ op (fold_by e op f xs) (fold_by e op f ys)
  fold_by-append f [] ys = sym (left (fold_by e op f ys))
  fold_by-append f (x ∷ xs) ys = ap (op (f x)) (fold_by-append f xs ys)
      ∙ sym (assoc (f x) (fold_by e op f xs) (fold_by e op f ys))

  fold_by-flat : {X Y : Type 0} (f : X → M) (h : Y → List X) (ys : List Y)
      → fold_by e op f (flat_map h ys) ≡ fold_by e op (λ y. fold_by e op f (h y)) ys
  fold_by-flat f h [] = refl
  fold_by-flat f h (y ∷ ys) = fold_by-append f (h y) (flat_map h ys)
      ∙ ap (op (fold_by e op f (h y))) (fold_by-flat f h ys)

  fold_below-none : (n : ℕ) (g : ℕ → M) → ((k : ℕ) → k < n → g k ≡ e)
      → fold_by e op g (below n) ≡ e
  fold_below-none zero g none = refl
  fold_below-none (suc n) g none = fold_by-append g (below n) (n ∷ [])
      ∙ ap (λ x. op x (op (g n) e)) (fold_below-none n g (λ k lt. none k (omega arith)))
      ∙ left (op (g n) e) ∙ right (g n) ∙ none n (omega arith)

  fold_below-one : (n p : ℕ) (g : ℕ → M) → p < n → ((k : ℕ) → k ≢ p → g k ≡ e)
      → fold_by e op g (below n) ≡ g p
  fold_below-one zero p g lt none = absurd (omega arith)
  fold_below-one (suc n) p g lt none = fold_by-append g (below n) (n ∷ [])
      ∙ ap (op (fold_by e op g (below n))) (right (g n)) ∙ elim (cases_eq n p) [
        | inl is ↦
            ap (λ x. op x (g n))
            (fold_below-none n g (λ k l. none k (omega arith))) ∙ left (g n) ∙ ap g is
        | inr other ↦
            ap (op (fold_by e op g (below n))) (none n other) ∙ right (fold_by e op g (below n))
            ∙ fold_below-one n p g (omega arith) none
      ]

  module _ {T : Type 0} (i j : ℕ) (u : ℕ × ℕ × T → M) (h : T → M)
      (on : (v : T) → u (i, j, v) ≡ h v)
      (off : (t : ℕ × ℕ × T) → is_at i j t ≡ false → u t ≡ e) where
    fold_option-off : (a b : ℕ) → (a ≡ i → b ≡ j → ⊥) → (o : Option T)
        → fold_by e op u (map (λ v. (a, b, v)) (option_to_list o)) ≡ e
    fold_option-off a b miss None = refl
    fold_option-off a b miss (Some v) = right (u (a, b, v)) ∙ off (a, b, v) (not_at i j a b v miss)

    fold_option-on : (a b : ℕ) → a ≡ i → b ≡ j → (o : Option T) (v : T) → o ≡ Some v
        → fold_by e op u (map (λ v. (a, b, v)) (option_to_list o)) ≡ h v
    fold_option-on a b row col o v some =
        ap (λ o. fold_by e op u (map (λ v. (a, b, v)) (option_to_list o))) some
        ∙ right (u (a, b, v)) ∙ ap (λ a. u (a, b, v)) row ∙ ap (λ b. u (i, b, v)) col ∙ on v

    module _ (r c : ℕ) (d : Dense T) where
      fold_column : (k : ℕ) → fold_by e op u (flat_map (triplet_at r c d k) (below d.nrows))
          ≡ fold_by e op (λ l. fold_by e op u (triplet_at r c d k l)) (below d.nrows)
      fold_column k = fold_by-flat u (triplet_at r c d k) (below d.nrows)

      fold_block : fold_by e op u (block_triplets r c d) ≡ fold_by e op
          (λ k. fold_by e op u (flat_map (triplet_at r c d k) (below d.nrows))) (below d.ncols)
      fold_block = fold_by-flat u (λ k. flat_map (triplet_at r c d k) (below d.nrows))
          (below d.ncols)

      off_at : (k l : ℕ) → (r + l ≡ i → c + k ≡ j → ⊥)
          → fold_by e op u (triplet_at r c d k l) ≡ e
      off_at k l miss = fold_option-off (r + l) (c + k) miss (slice_get d.values (k * d.nrows + l))

      -- at a pair outside the block no triplet counts
      pub fold_block-outside : ((k l : ℕ) → l < d.nrows → k < d.ncols → r + l ≡ i → c + k ≡ j → ⊥)
          → fold_by e op u (block_triplets r c d) ≡ e
      fold_block-outside miss = fold_block ∙ fold_below-none d.ncols _ (λ k col. fold_column k
          ∙ fold_below-none d.nrows _ (λ l row. off_at k l (miss k l row col)))

      -- at a pair within the block the value there counts
      pub fold_block-within : (z : T) (k l : ℕ) → length d.values ≡ d.nrows * d.ncols
          → l < d.nrows → k < d.ncols → r + l ≡ i → c + k ≡ j
          → fold_by e op u (block_triplets r c d) ≡ h (get_or d.values (k * d.nrows + l) z)
      fold_block-within z k l full row col at_row at_col =
          let within : k * d.nrows + l < length d.values =
          rw full (mul-add-lt k d.nrows l d.ncols col row) in
          let v = get_or d.values (k * d.nrows + l) z in
          fold_block
          ∙ fold_below-one d.ncols k _ col (λ m ne. fold_column m
          ∙ fold_below-none d.nrows _ (λ l _. off_at m l (λ _ is. ne (omega arith))))
          ∙ fold_column k
          ∙ fold_below-one d.nrows l _ row (λ m ne. off_at k m (λ is _. ne (omega arith)))
          ∙ fold_option-on (r + l) (c + k) at_row at_col _ v
          (slice_get_read d.values (length d.values) (k * d.nrows + l) v refl within
          (get_or_default d.values (k * d.nrows + l) z v within))
