-- A column is merged from the run that is the tail of its longest child, and the list of its other
-- rows.
use Rattle.std.proofs.Common.{◌≡◌, ◌≢◌, ℕ, suc, ◌+◌, ◌-◌, ◌⊎◌, inl, inr, ◌↔◌, List, Contains}
use Rattle.std.proofs.Common.{slice_range, subst, rules, arith}
use Rattle.std.proofs.lemmas.Bool.{cases_eq}
use Rattle.sparse_factor.specs.InnerColumns.{IsInRun, IsInColumn}
use Rattle.sparse_factor.specs.InnerChildren.{IsOnList, IsTailRun, IsInTailOf, IsInTails, HasOthers}
use Rattle.sparse_factor.specs.InnerCountedPairs.{CountsPairs}
use Rattle.sparse_factor.proofs.Runs.{run_has}
use Rattle.sparse_factor.proofs.Alternatives.{both_ways}
use Rattle.sparse_factor.proofs.AddedRows.{counted_superset, counted_both, run_counted}

-- the rows of the tail of a column, as a list
pub tail_list : {offsets rows : List ℕ} {head from to : ℕ} → IsTailRun offsets rows head from to
    → (i : ℕ) → Contains (slice_range rows from to) i ↔ IsInTailOf offsets rows head i
tail_list tail i = both_ways (run_has tail.run i) (tail.has i)

-- the steps for the tail of a column
pub tail_steps : {offsets rows : List ℕ} {head from to : ℕ} → IsTailRun offsets rows head from to
    → {old new : ℕ} → new + from ≡ old + to
    → CountsPairs (λ i k. (head ≡ suc k) × IsInColumn offsets rows k i) old new
tail_steps {offsets} {rows} {head} tail size =
    counted_superset (λ i k h.
    let (l, e, is_in) = (tail.has i).0 h.1 in
    let same : l ≡ k = omega (arith, h.0, e) in
    (omega (arith, e, same), subst (λ x. IsInColumn offsets rows x i) same is_in.0))
    (run_counted tail.run (head - 1) (omega (arith, size, tail.run.ordered)))

-- an only child: no tail is added
pub single_others : {offsets rows nexts : List ℕ} {first longest : ℕ} → (first ≢ 0 → longest ≢ 0)
    → ((k : ℕ) → longest ≡ suc k → IsOnList nexts first k)
    → ((k : ℕ) → IsOnList nexts first k → first ≡ suc k) → {old : List ℕ}
    → HasOthers offsets rows nexts first longest old old
single_others {longest = longest} some on_list single = record {
  kept = λ i h. h;
  sound = λ i h. inl h;
  whole = λ i k r ne tail.
      let here = single k r in
      let none : longest ≢ 0 = some (λ e. omega (arith, e, here)) in
      let e : longest ≡ suc (longest - 1) = omega (arith, none) in
      absurd (ne (omega (arith, e, here, single (longest - 1) (on_list (longest - 1) e))));
}

-- the same rows in another order
pub others_sorted : {offsets rows nexts : List ℕ} {first longest : ℕ} {old new : List ℕ}
    → HasOthers offsets rows nexts first longest old new → {sorted : List ℕ}
    → ((i : ℕ) → Contains sorted i ↔ Contains new i)
    → HasOthers offsets rows nexts first longest old sorted
others_sorted others same = record {
  kept = λ i h. (same i).1 (others.kept i h);
  sound = λ i h. others.sound i ((same i).0 h);
  whole = λ i k r ne tail. (same i).1 (others.whole i k r ne tail);
}

-- the run is the tail of the longest child
module _ {offsets rows nexts : List ℕ} {first longest from to : ℕ}
    (tail : IsTailRun offsets rows longest from to)
    (on_list : (k : ℕ) → longest ≡ suc k → IsOnList nexts first k) where
  pub others_has : {own added : List ℕ} → HasOthers offsets rows nexts first longest own added
      → (i : ℕ) → (IsInRun rows from to i ⊎ Contains added i)
      ↔ (IsInTails offsets rows nexts first i ⊎ Contains own i)
  others_has others i = (
    λ h. elim h [
      | inl in_run ↦
          let (k, e, is_in) = (tail.has i).0 in_run in
          inl (k, on_list k e, is_in)
      | inr in_list ↦ let was = others.sound i in_list in search rules
    ],
    λ h. elim h [
      | inl is ↦
          let (k, r, is_in) = is in
          elim (cases_eq longest (suc k)) [
            | inl e ↦ inl ((tail.has i).1 (k, e, is_in))
            | inr ne ↦ inr (others.whole i k r ne is_in)
          ]
      | inr mine ↦ inr (others.kept i mine)
    ],
  )

  -- the steps for the tails of all children
  pub tails_counted : {old mid new : ℕ}
      → CountsPairs (λ i k. IsOnList nexts first k × (longest ≢ suc k) × IsInColumn offsets rows k i)
      old mid → new + from ≡ mid + to
      → CountsPairs (λ i k. IsOnList nexts first k × IsInColumn offsets rows k i) old new
  tails_counted others size =
      counted_superset (λ i k h. elim h [
        | inl more ↦ (more.0, more.2)
        | inr one ↦ (on_list k one.0, one.1)
      ]) (counted_both others (tail_steps tail size) (λ i k more one. more.1 one.0))
