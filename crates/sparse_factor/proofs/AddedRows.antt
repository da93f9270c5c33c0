-- The number of merged rows: steps that are counted for pairs (row, column), each pair once.
use Rattle.std.proofs.Common.{◌≡◌, ◌≢◌, ℕ, ◌+◌, ◌-◌, ◌<◌, ◌≤◌}
use Rattle.std.proofs.Common.{inl, inr, List, [], ◌++◌, map, length}
use Rattle.std.proofs.Common.{get_or, slice_range, length-append, sym, ap, ◌∙◌, subst, arith, ◌⊎◌}
use Rattle.std.specs.List.{Contains, AllPairs}
use Rattle.std.proofs.lemmas.List.{get_or-map, length-map}
use Rattle.std.proofs.lemmas.List.Elements.{Contains-append_cases}
use Rattle.std.proofs.lemmas.Map.Made.{length-le_from_is_member, is_member-Decides}
use Rattle.std.proofs.lemmas.Map.Made.{IsDistinct-from_AllPairs}
use Rattle.sparse_factor.specs.InnerColumns.{IsRun, IsInRun}
use Rattle.sparse_factor.specs.InnerCountedPairs.{CountsPairs}
use Rattle.sparse_factor.proofs.DistinctLists.{all_pairs_append}
use Rattle.sparse_factor.proofs.Pairs.{pair, same_pair, pair_laws}
use Rattle.sparse_factor.proofs.Runs.{length-run, rising_at, rising_run, run_has}

pub none_added : (In : ℕ → ℕ → Type 0) (n : ℕ) → CountsPairs In n n
none_added In n = record {
  pairs = [];
  size = omega arith;
  once = λ a b d lt within. absurd (omega arith);
  inside = λ p h. absurd (omega (arith, h.1));
}

-- the same steps, counted after k other steps
pub counted_later : {In : ℕ → ℕ → Type 0} {old new first last : ℕ} (k : ℕ) → CountsPairs In old new
    → first ≡ old + k → last ≡ new + k → CountsPairs In first last
counted_later k added begin end = record {
  pairs = added.pairs;
  size = omega (arith, added.size);
  once = added.once;
  inside = added.inside;
}

pub counted_superset : {A B : ℕ → ℕ → Type 0} {old new : ℕ} → ((i j : ℕ) → A i j → B i j)
    → CountsPairs A old new → CountsPairs B old new
counted_superset into added = record {
  pairs = added.pairs;
  size = added.size;
  once = added.once;
  inside = λ p h. into p.0 p.1 (added.inside p h);
}

-- the steps for two sets without a common pair
pub counted_both : {A B : ℕ → ℕ → Type 0} {a b c : ℕ} → CountsPairs A a b → CountsPairs B b c
    → ((i j : ℕ) → A i j → B i j → ⊥) → CountsPairs (λ i j. A i j ⊎ B i j) a c
counted_both {A} {B} first second one_outside = record {
  pairs = first.pairs ++ second.pairs;
  size = omega (arith, first.size, second.size, length-append first.pairs second.pairs);
  once = all_pairs_append (λ x y. x ≢ y) first.pairs second.pairs first.once second.once
      (λ x y hx hy e. one_outside y.0 y.1 (subst (λ z. A z.0 z.1) e (first.inside x hx))
      (second.inside y hy));
  inside = λ p h. elim (Contains-append_cases first.pairs second.pairs p h) [
    | inl old ↦ inl (first.inside p old)
    | inr new ↦ inr (second.inside p new)
  ];
}

-- a list that contains every pair is at least as long
pub counted_at_most : {In : ℕ → ℕ → Type 0} {old new : ℕ} → CountsPairs In old new
    → (fill : List (ℕ × ℕ)) → ((i j : ℕ) → In i j → Contains fill (i, j))
    → new ≤ old + length fill
counted_at_most added fill all =
    let most : length added.pairs ≤ length fill = length-le_from_is_member pair_laws
    added.pairs fill (IsDistinct-from_AllPairs same_pair added.pairs added.once)
    (λ q h. (is_member-Decides same_pair fill q).1 (all q.0 q.1
    (added.inside q ((is_member-Decides same_pair added.pairs q).0 h)))) in
    omega (arith, added.size, most)

-- ---- the rows of a run, each in column k

abbrev in_column : ℕ → List ℕ → List (ℕ × ℕ)
in_column k rows = map (λ i. pair i k) rows

in_column_has : (k : ℕ) (rows : List ℕ) (p : ℕ × ℕ) → Contains (in_column k rows) p
    → (p.1 ≡ k) × Contains rows p.0
in_column_has k rows p h =
    let within : h.0 < length rows = omega (arith, h.1, length-map rows (λ i. pair i k)) in
    let e : p ≡ pair (get_or rows h.0 p.0) k = sym h.2
    ∙ get_or-map (λ i. pair i k) rows h.0 p.0 p within in
    (ap (λ p. p.1) e, (h.0, within, sym (ap (λ p. p.0) e)))

module _ {xs : List ℕ} {low high : ℕ} (run : IsRun xs low high) (k : ℕ) where
  abbrev rows : List ℕ
  rows = slice_range xs low high

  rows_once : AllPairs (λ x y. x ≢ y) (in_column k rows)
  rows_once a b d lt within same =
      let inside : b < length rows = omega (arith, within, length-map rows (λ i. pair i k)) in
      let read = λ (c : ℕ) (near : c < length rows). get_or-map (λ i. pair i k) rows c 0 d near in
      let e : get_or rows a 0 ≡ get_or rows b 0 =
      ap (λ p. p.0) (sym (read a (omega arith)) ∙ same ∙ read b inside) in
      let rise = rising_at rows (rising_run run) a b lt inside in
      omega (arith, e, rise)

  pub run_counted : {old new : ℕ} → new ≡ old + (high - low)
      → CountsPairs (λ i j. (j ≡ k) × IsInRun xs low high i) old new
  run_counted size = record {
    pairs = in_column k rows;
    size = omega (arith, size, length-map rows (λ i. pair i k), length-run run);
    once = rows_once;
    inside = λ p h.
        let at = in_column_has k rows p h in
        (at.0, (run_has run p.0).0 at.1);
  }
