-- The counts of the loop that counts the entries in each cell.
use Rattle.std.proofs.Common.{◌≡◌, ℕ, ◌+◌, ◌*◌, ◌/◌, ◌%◌, ◌<◌, ◌≤◌, Bool, true, false, List, ◌∷◌}
use Rattle.std.specs.Prelude.{◌&&◌}
use Rattle.std.proofs.Common.{length, slice_index, slice_set, refl, sym, ap, ◌∙◌, arith, cond, subst, inl, inr, []}
use Rattle.std.specs.Prelude.{count_by}
use Rattle.std.specs.List.{Contains}
use Rattle.std.proofs.lemmas.Bool.{eqb-true, eq-eqb, and_from, false≢true}
use Rattle.std.proofs.lemmas.List.{get_or-set_same, get_or-set_other}
use Rattle.std.proofs.lemmas.List.Sums.{sum_by-cons}
use Rattle.std.proofs.lemmas.Nat.{div-mul-add, mod-mul-add}
use Rattle.sparse_pattern.specs.Raw.{Raw, IsValid, entries_of}
use Rattle.sparse_pattern.proofs.LaneOrder.{contains_cases, Contains-entries_of}
use Rattle.mtxkit_matrices.proofs.EntriesLeft.{Contains-head, Contains-tail}
use Rattle.mtxkit_matrices.specs.Pictures.{cell_of, lies_in, entries_in, HasEntryIn}

-- cells in the same column or another have different numbers unless they are the same cell
same_row : (width r c row col : ℕ) → c < width → col < width → r * width + c ≡ row * width + col
    → r ≡ row
same_row width r c row col lt lt' e =
    sym (div-mul-add r width c lt) ∙ ap (λ n. n / width) e ∙ div-mul-add row width col lt'

same_col : (width r c row col : ℕ) → c < width → col < width → r * width + c ≡ row * width + col
    → c ≡ col
same_col width r c row col lt lt' e =
    sym (mod-mul-add r width c lt) ∙ ap (λ n. n % width) e ∙ mod-mul-add row width col lt'

both : (a b : Bool) → (a && b) ≡ true → (a ≡ true) × (b ≡ true)
both true b e = (refl, e)
both false b e = absurd (false≢true e)

module _ (p : Raw) (height width : ℕ) where
  count_first : (r c : ℕ) (e : ℕ × ℕ) (tail : List (ℕ × ℕ)) (t : Bool)
      → lies_in p height width r c e ≡ t
      → count_by (lies_in p height width r c) (e ∷ tail)
      ≡ cond t 1 0 + count_by (lies_in p height width r c) tail
  count_first r c e tail t is =
      sum_by-cons (λ x. cond (lies_in p height width r c x) 1 0) e tail
      ∙ ap (λ b. cond b 1 0 + count_by (lies_in p height width r c) tail) is

  -- after the entry (i, j), which lies in the cell at (row, col), is counted
  pub counted_next : (counts : List ℕ) (i j row col : ℕ) {rest tail : List (ℕ × ℕ)}
      → rest ≡ (i, j) ∷ tail → row ≡ cell_of p.major_dim height i
      → col ≡ cell_of p.minor_dim width j → col < width → row * width + col < length counts
      → (r c total : ℕ) → c < width
      → slice_index counts (r * width + c) + count_by (lies_in p height width r c) rest ≡ total
      → slice_index (slice_set counts (row * width + col)
      (slice_index counts (row * width + col) + 1)) (r * width + c)
      + count_by (lies_in p height width r c) tail ≡ total
  counted_next counts i j row col {rest} {tail} is down across lt within r c total lt' so_far =
      by (lies_in p height width r c (i, j)) refl
    where
      k : ℕ
      k = row * width + col

      old : slice_index counts (r * width + c) + count_by (lies_in p height width r c) ((i, j) ∷ tail)
          ≡ total
      old = ap (λ l. slice_index counts (r * width + c) + count_by (lies_in p height width r c) l)
          (sym is) ∙ so_far

      by : (t : Bool) → lies_in p height width r c (i, j) ≡ t
          → slice_index (slice_set counts k (slice_index counts k + 1)) (r * width + c)
          + count_by (lies_in p height width r c) tail ≡ total
      by true e =
          let is = both _ _ e in
          let here : r * width + c ≡ k =
          ap (λ n. n * width + c) (sym (down ∙ eqb-true _ _ is.0))
          ∙ ap (λ n. row * width + n) (sym (across ∙ eqb-true _ _ is.1)) in
          let set : slice_index (slice_set counts k (slice_index counts k + 1)) (r * width + c)
          ≡ slice_index counts k + 1 =
          rw here (get_or-set_same counts k (slice_index counts k + 1) 0 within) in
          let first = count_first r c (i, j) tail true e in
          let was : slice_index counts (r * width + c) ≡ slice_index counts k =
          ap (slice_index counts) here in
          omega (arith, set, first, was, old)
      by false e =
          let apart : r * width + c ≡ k → ⊥ =
          λ q. false≢true (sym e ∙ and_from _ _
          (eq-eqb _ _ (sym down ∙ sym (same_row width r c row col lt' lt q)))
          (eq-eqb _ _ (sym across ∙ sym (same_col width r c row col lt' lt q)))) in
          let kept : slice_index (slice_set counts k (slice_index counts k + 1)) (r * width + c)
          ≡ slice_index counts (r * width + c) =
          get_or-set_other counts k (r * width + c) (slice_index counts k + 1) 0 apart in
          let first = count_first r c (i, j) tail false e in
          omega (arith, kept, first, old)

  -- the count of the cell in which the next entry lies can grow
  pub counted_one_more : (counts : List ℕ) (i j row col : ℕ) {rest tail : List (ℕ × ℕ)}
      → rest ≡ (i, j) ∷ tail → row ≡ cell_of p.major_dim height i
      → col ≡ cell_of p.minor_dim width j → {total : ℕ}
      → slice_index counts (row * width + col) + count_by (lies_in p height width row col) rest
      ≡ total
      → slice_index counts (row * width + col) + 1 ≤ total
  counted_one_more counts i j row col {rest} {tail} is down across {total} so_far =
      let here : lies_in p height width row col (i, j) ≡ true =
      and_from _ _ (eq-eqb _ _ (sym down)) (eq-eqb _ _ (sym across)) in
      let first : count_by (lies_in p height width row col) rest
      ≡ 1 + count_by (lies_in p height width row col) tail =
      ap (count_by (lies_in p height width row col)) is ∙ count_first row col (i, j) tail true here in
      omega (arith, first, so_far)

  -- an entry that lies in no cell changes no count
  pub counted_beyond : (counts : List ℕ) (i j : ℕ) {rest tail : List (ℕ × ℕ)}
      → rest ≡ (i, j) ∷ tail → (r c total : ℕ)
      → (cell_of p.major_dim height i ≡ r → cell_of p.minor_dim width j ≡ c → ⊥)
      → slice_index counts (r * width + c) + count_by (lies_in p height width r c) rest ≡ total
      → slice_index counts (r * width + c) + count_by (lies_in p height width r c) tail ≡ total
  counted_beyond counts i j {rest} {tail} is r c total none so_far =
      by (lies_in p height width r c (i, j)) refl
    where
      old : slice_index counts (r * width + c) + count_by (lies_in p height width r c) ((i, j) ∷ tail)
          ≡ total
      old = ap (λ l. slice_index counts (r * width + c) + count_by (lies_in p height width r c) l)
          (sym is) ∙ so_far

      by : (t : Bool) → lies_in p height width r c (i, j) ≡ t
          → slice_index counts (r * width + c) + count_by (lies_in p height width r c) tail ≡ total
      by true e = let is = both _ _ e in
          absurd (none (eqb-true _ _ is.0) (eqb-true _ _ is.1))
      by false e = let first = count_first r c (i, j) tail false e in
          omega (arith, first, old)

-- ---- cells with entries

module _ {X : Type 0} (P : X → Bool) where
  counted_some : (xs : List X) → 0 < count_by P xs → (x : X) × Contains xs x × (P x ≡ true)
  counted_some [] lt = absurd (omega (arith, lt))
  counted_some (x ∷ xs) lt = by (P x) refl (counted_some xs)
    where
      by : (t : Bool) → P x ≡ t
          → (0 < count_by P xs → (y : X) × Contains xs y × (P y ≡ true))
          → (y : X) × Contains (x ∷ xs) y × (P y ≡ true)
      by true e others = (x, Contains-head x xs, e)
      by false e others =
          let first : count_by P (x ∷ xs) ≡ count_by P xs =
          sum_by-cons (λ y. cond (P y) 1 0) x xs ∙ ap (λ b. cond b 1 0 + count_by P xs) e
          ∙ omega arith in
          let some = others (omega (arith, lt, first)) in
          (some.0, Contains-tail x xs some.0 some.1, some.2)

  some_counted : (xs : List X) (x : X) → Contains xs x → P x ≡ true → 0 < count_by P xs
  some_counted [] x h e = absurd (omega (arith, h.1))
  some_counted (y ∷ xs) x h e =
      let first = sum_by-cons (λ z. cond (P z) 1 0) y xs in
      elim (contains_cases y x xs h) [
        | inl is ↦
            let one : cond {A = ℕ} (P y) 1 0 ≡ 1 = ap (λ b. cond b 1 0) (subst (λ z. P z ≡ true) (sym is) e) in
            omega (arith, first, one)
        | inr h ↦ omega (arith, first, some_counted xs x h e)
      ]

module _ (p : Raw) (valid : IsValid p) (height width r c : ℕ) where
  pub HasEntryIn-from_count : 0 < entries_in p height width r c → HasEntryIn p height width r c
  HasEntryIn-from_count lt =
      let some = counted_some (lies_in p height width r c) (entries_of p) lt in
      let is = both _ _ some.2 in
      record {
        i = some.0.0;
        j = some.0.1;
        place = (Contains-entries_of p valid some.0.0 some.0.1).0 some.1;
        down = eqb-true _ _ is.0;
        across = eqb-true _ _ is.1;
      }

  pub count-from_HasEntryIn : HasEntryIn p height width r c → 0 < entries_in p height width r c
  count-from_HasEntryIn h =
      some_counted (lies_in p height width r c) (entries_of p) (h.i, h.j)
      ((Contains-entries_of p valid h.i h.j).1 h.place)
      (and_from _ _ (eq-eqb _ _ h.down) (eq-eqb _ _ h.across))
