-- The list of a block of rows while triplets are appended to it.
use Rattle.std.proofs.Common.{◌≡◌, ℕ, List, [], ◌∷◌, ◌++◌, ap, sym, ◌∙◌, refl, append_assoc}
use Rattle.std.specs.List.{flat_map}
use Rattle.nalgebra_sparse.specs.Coo.{Coo, appended, coo_of}
use Rattle.examples_theorems.specs.InnerRowBlocks.{one_in_block, IsBlockWithout}

append-none : {X : Type 0} (xs : List X) → (xs ++ []) ≡ xs
append-none [] = refl
append-none (x ∷ xs) = ap (λ ys. x ∷ ys) (append-none xs)

module _ {T : Type 0} (start nrows ncols : ℕ) where
  -- at first all triplets are still to be appended to an empty list
  pub started : (all first : List (ℕ × ℕ × T)) (m : Coo T) → first ≡ all
      → m ≡ coo_of nrows ncols [] → IsBlockWithout start nrows ncols all first m
  started all first m same new = record {
    rows = ap (λ l. l.nrows) new;
    cols = ap (λ l. l.ncols) new;
    triplets =
        let one = one_in_block start nrows ncols in
        ap (λ l. l.triplets ++ flat_map one first) new ∙ ap (flat_map one) same;
  }

  -- a triplet was appended
  pub one_less : (all rest more : List (ℕ × ℕ × T)) (t : ℕ × ℕ × T) (m next : Coo T)
      → rest ≡ t ∷ more → next ≡ appended m (one_in_block start m.nrows m.ncols t)
      → IsBlockWithout start nrows ncols all rest m → IsBlockWithout start nrows ncols all more next
  one_less all rest more t m next first added kept = record {
    rows = ap (λ l. l.nrows) added ∙ kept.rows;
    cols = ap (λ l. l.ncols) added ∙ kept.cols;
    triplets =
        let one = one_in_block start nrows ncols in
        let same : one_in_block start m.nrows m.ncols t ≡ one t =
        ap (λ n. one_in_block start n m.ncols t) kept.rows
        ∙ ap (λ n. one_in_block start nrows n t) kept.cols in
        ap (λ l. l.triplets ++ flat_map one more) added
        ∙ ap (λ ts. (m.triplets ++ ts) ++ flat_map one more) same
        ∙ append_assoc m.triplets (one t) (flat_map one more)
        ∙ ap (λ ts. m.triplets ++ flat_map one ts) (sym first) ∙ kept.triplets;
  }

  -- all triplets were appended
  pub none_left : (all rest : List (ℕ × ℕ × T)) (m : Coo T) → rest ≡ []
      → IsBlockWithout start nrows ncols all rest m
      → m ≡ coo_of nrows ncols (flat_map (one_in_block start nrows ncols) all)
  none_left all rest m empty kept =
      let one = one_in_block start nrows ncols in
      ap (λ n. coo_of n m.ncols m.triplets) kept.rows
      ∙ ap (λ n. coo_of nrows n m.triplets) kept.cols
      ∙ ap (coo_of nrows ncols) (sym (append-none m.triplets)
      ∙ ap (λ ts. m.triplets ++ flat_map one ts) (sym empty) ∙ kept.triplets)
