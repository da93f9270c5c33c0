-- Pushing the triplets of a dense block, column by column.
use Rattle.std.proofs.Common.{◌≡◌, ℕ, ◌+◌, ◌*◌, ◌<◌, ◌≤◌, ◌≢◌, ◌⊎◌, inl, inr, List, [], ◌∷◌, ◌++◌}
use Rattle.std.proofs.Common.{length, append_assoc, add-one, ap, sym, ◌∙◌, refl, arith}
use Rattle.std.specs.List.{flat_map}
use Rattle.std.proofs.lemmas.Nat.{mul-add-lt}
use Rattle.std.proofs.lemmas.Grind.{flat_map-append}
use Rattle.std.proofs.lemmas.List.{append-nil}
use Rattle.std.proofs.Math.ListN.{length-append}
use Rattle.std.proofs.lemmas.Option.{slice_get_read, slice_get_past}
use Rattle.sparse_algebra.specs.Plain.{below}
use Rattle.sparse_coo_dense.specs.Coo.{Coo, zip_triplets, AreParts}
use Rattle.sparse_coo_dense.specs.Dense.{Dense, value_at}
use Rattle.sparse_coo_dense.specs.Blocks.{triplet_at, block_triplets, IsEmptyBlock, IsBlockInside}
use Rattle.sparse_coo_dense.proofs.TripletLists.{triplets-push, sound_push}

-- the lists of the numbers below n + 1 are those of the numbers below n, and then that of n
pub flat_map-next : {X : Type 0} (f : ℕ → List X) (n : ℕ)
    → flat_map f (below (n + 1)) ≡ flat_map f (below n) ++ f n
flat_map-next f n = ap (λ k. flat_map f (below k)) (add-one n)
    ∙ flat_map-append f (below n) (n ∷ []) ∙ ap (λ l. flat_map f (below n) ++ l) (append-nil (f n))

flat_map-nothing : {X : Type 0} (f : ℕ → List X) (ns : List ℕ) → ((n : ℕ) → f n ≡ [])
    → flat_map f ns ≡ []
flat_map-nothing f [] none = refl
flat_map-nothing f (n ∷ ns) none = rw none (flat_map-nothing f ns none)

module _ {T : Type 0} where
  -- the triplets of the block before row i of column j
  abbrev pub triplets_before : ℕ → ℕ → Dense T → ℕ → ℕ → List (ℕ × ℕ × T)
  triplets_before r c d j i = flat_map (λ j. flat_map (triplet_at r c d j) (below d.nrows))
      (below j) ++ flat_map (triplet_at r c d j) (below i)

  -- is, js and vs are the lists after the triplets before row i of column j are pushed
  pub record IsPushed (r c : ℕ) (d : Dense T) (is0 js0 : List ℕ) (vs0 : List T) (j i : ℕ)
      (is js : List ℕ) (vs : List T) : Type 0 where
    pub row_count : length is ≡ length vs
    pub col_count : length js ≡ length vs
    pub triplets : zip_triplets is js vs ≡ zip_triplets is0 js0 vs0 ++ triplets_before r c d j i
    pub parts : (n m : ℕ) → AreParts n m is0 js0 vs0 → r + d.nrows ≤ n → c + d.ncols ≤ m
        → AreParts n m is js vs

  triplet_at_is : (r c : ℕ) (d : Dense T) (j i : ℕ) (v : T) → j * d.nrows + i < length d.values
      → v ≡ value_at d i j v → triplet_at r c d j i ≡ (r + i, c + j, v) ∷ []
  triplet_at_is r c d j i v within is = rw (slice_get_read d.values (length d.values) (j * d.nrows + i) v
      refl within is) refl

  next_before : (r c : ℕ) (d : Dense T) (j i : ℕ) (v : T) → j * d.nrows + i < length d.values
      → v ≡ value_at d i j v
      → triplets_before r c d j (i + 1) ≡ triplets_before r c d j i ++ (r + i, c + j, v) ∷ []
  next_before r c d j i v within is =
      let columns = flat_map (λ j. flat_map (triplet_at r c d j) (below d.nrows)) (below j) in
      let rows = flat_map (triplet_at r c d j) (below i) in
      ap (λ l. columns ++ l) (flat_map-next (triplet_at r c d j) i
      ∙ ap (λ l. rows ++ l) (triplet_at_is r c d j i v within is))
      ∙ sym (append_assoc columns rows ((r + i, c + j, v) ∷ []))

  pub one_pushed : {r c : ℕ} {d : Dense T} {is0 js0 : List ℕ} {vs0 : List T} {j i : ℕ}
      {is js : List ℕ} {vs : List T} {v : T}
      → length d.values ≡ d.nrows * d.ncols → i < d.nrows → j < d.ncols → v ≡ value_at d i j v
      → IsPushed r c d is0 js0 vs0 j i is js vs
      → IsPushed r c d is0 js0 vs0 j (i + 1) (is ++ (r + i) ∷ []) (js ++ (c + j) ∷ [])
      (vs ++ v ∷ [])
  one_pushed {r} {c} {d} {is0} {js0} {vs0} {j} {i} {is} {js} {vs} {v} full row col value pushed =
      let within : j * d.nrows + i < length d.values =
      rw full (mul-add-lt j d.nrows i d.ncols col row) in
      record {
        row_count = simp length-append (omega (arith, pushed.row_count));
        col_count = simp length-append (omega (arith, pushed.col_count));
        triplets = triplets-push is js vs (r + i) (c + j) v pushed.row_count pushed.col_count
            ∙ ap (λ l. l ++ (r + i, c + j, v) ∷ []) pushed.triplets
            ∙ append_assoc (zip_triplets is0 js0 vs0) (triplets_before r c d j i)
            ((r + i, c + j, v) ∷ []) ∙ ap (λ l. zip_triplets is0 js0 vs0 ++ l)
            (sym (next_before r c d j i v within value));
        parts = λ n m parts rows cols. sound_push n m is js vs (r + i) (c + j) v
            (pushed.parts n m parts rows cols) (omega arith) (omega arith);
      }

  pub column_pushed : {r c : ℕ} {d : Dense T} {is0 js0 : List ℕ} {vs0 : List T} {j : ℕ}
      {is js : List ℕ} {vs : List T}
      → IsPushed r c d is0 js0 vs0 j d.nrows is js vs → IsPushed r c d is0 js0 vs0 (j + 1) 0 is js
      vs
  column_pushed {r} {c} {d} {is0} {js0} {vs0} {j} pushed = record {
    row_count = pushed.row_count;
    col_count = pushed.col_count;
    triplets = pushed.triplets ∙ ap (λ l. zip_triplets is0 js0 vs0 ++ l)
        (sym (append-nil _ ∙ flat_map-next (λ j. flat_map (triplet_at r c d j) (below d.nrows)) j));
    parts = pushed.parts;
  }

  pub none_pushed : {r c : ℕ} {d : Dense T} {is js : List ℕ} {vs : List T}
      → length is ≡ length vs → length js ≡ length vs → IsPushed r c d is js vs 0 0 is js vs
  none_pushed {r} {c} {d} {is} {js} {vs} rows cols = record {
    row_count = rows;
    col_count = cols;
    triplets = sym (append-nil (zip_triplets is js vs));
    parts = λ _ _ parts _ _. parts;
  }

  pub all_pushed : {r c : ℕ} {d : Dense T} {is0 js0 : List ℕ} {vs0 : List T}
      {is js : List ℕ} {vs : List T} → IsPushed r c d is0 js0 vs0 d.ncols 0 is js vs
      → zip_triplets is js vs ≡ zip_triplets is0 js0 vs0 ++ block_triplets r c d
  all_pushed {r} {c} {d} {is0} {js0} {vs0} pushed = pushed.triplets
      ∙ ap (λ l. zip_triplets is0 js0 vs0 ++ l) (append-nil (block_triplets r c d))

  pub empty_block : (r c : ℕ) (d : Dense T) → length d.values ≡ 0 → block_triplets r c d ≡ []
  empty_block r c d none = flat_map-nothing _ (below d.ncols)
      (λ j. flat_map-nothing _ (below d.nrows)
      (λ i. rw (slice_get_past d.values (j * d.nrows + i) (omega arith)) refl))

  pub empty_size : (d : Dense T) → length d.values ≡ d.nrows * d.ncols → IsEmptyBlock d
      → length d.values ≡ 0
  empty_size d full (inl rows) = full ∙ ap (λ n. n * d.ncols) rows ∙ omega arith
  empty_size d full (inr cols) = full ∙ ap (λ n. d.nrows * n) cols ∙ omega arith

  pub block_inside : (m : Coo T) (r c : ℕ) (d : Dense T) → length d.values ≡ d.nrows * d.ncols
      → length d.values ≢ 0 → IsEmptyBlock d ⊎ IsBlockInside m r c d → IsBlockInside m r c d
  block_inside m r c d full some (inl empty) = absurd (some (empty_size d full empty))
  block_inside m r c d full some (inr inside) = inside
