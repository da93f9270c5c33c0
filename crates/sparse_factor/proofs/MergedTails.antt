-- The tails of the columns on a list are added one after another.
use Rattle.std.proofs.Common.{◌≡◌, ◌≢◌, ℕ, suc, ◌-◌, ◌<◌, ◌≤◌, ◌⊎◌, inl, inr, ◌↔◌, List, length}
use Rattle.std.proofs.Common.{slice_index, Contains, sym, subst, arith}
use Rattle.sparse_factor.specs.InnerColumns.{IsInColumn, IsInTail}
use Rattle.sparse_factor.specs.InnerChildren.{IsOnList, here, next}
use Rattle.sparse_factor.specs.InnerChildren.{AreFalling, IsInTailOf, IsInTails}
use Rattle.sparse_factor.specs.InnerCountedPairs.{CountsPairs}
use Rattle.sparse_factor.proofs.Children.{IsOnList-cases}
use Rattle.sparse_factor.proofs.AddedRows.{none_added, counted_superset, counted_both}

-- the columns on the list from `first` to before `head` are done: `now` has the rows of `old` and
-- of their tails, except that of the longest
pub record AreTailsMerged (offsets rows nexts : List ℕ) (first longest : ℕ) (old now : List ℕ)
    (before steps head : ℕ) : Type 0 where
  pub within : head < length offsets
  pub rest : (k : ℕ) → IsOnList nexts head k → IsOnList nexts first k
  pub kept : (i : ℕ) → Contains old i → Contains now i
  pub sound : (i : ℕ) → Contains now i → Contains old i ⊎ IsInTails offsets rows nexts first i
  pub whole : (i k : ℕ) → IsOnList nexts first k → longest ≢ suc k → IsInTail offsets rows k i
      → Contains now i ⊎ IsOnList nexts head k
  pub added : CountsPairs (λ i k. (IsOnList nexts first k × (longest ≢ suc k)
      × IsInColumn offsets rows k i) × (head ≤ k)) before steps

module _ (offsets rows nexts : List ℕ) (first longest : ℕ) (old : List ℕ) (before : ℕ) where
  pub no_tails_merged : first < length offsets
      → AreTailsMerged offsets rows nexts first longest old old before before first
  no_tails_merged within = record {
    within = within;
    rest = λ k r. r;
    kept = λ i h. h;
    sound = λ i h. inl h;
    whole = λ i k r ne tail. inr r;
    added = none_added _ before;
  }

  -- one more column
  module _ (now : List ℕ) (steps head after : ℕ)
      (are : AreTailsMerged offsets rows nexts first longest old now before steps head)
      (falling : AreFalling nexts) (some : head ≢ 0) (link : after ≡ slice_index nexts (head - 1))
    where
      head_is : head ≡ suc (head - 1)
      head_is = omega (arith, some)

      lower : after ≤ head - 1
      lower = omega (arith, link, falling (head - 1))

      head_is_on_list : IsOnList nexts first (head - 1)
      head_is_on_list = are.rest (head - 1) (subst (λ h. IsOnList nexts h (head - 1)) (sym head_is) here)

      rest_after : (k : ℕ) → IsOnList nexts after k → IsOnList nexts first k
      rest_after k r = are.rest k (subst (λ h. IsOnList nexts h k) (sym head_is)
          (next (subst (λ h. IsOnList nexts h k) link r)))

      on_list_after : (k : ℕ) → IsOnList nexts head k → (k ≡ head - 1) ⊎ IsOnList nexts after k
      on_list_after k r = elim (IsOnList-cases r (head - 1) head_is) [
        | inl same ↦ inl same
        | inr later ↦ inr (subst (λ h. IsOnList nexts h k) (sym link) later)
      ]

      -- the longest column, which is skipped
      pub longest_past : head ≡ longest
          → AreTailsMerged offsets rows nexts first longest old now before steps after
      longest_past e = record {
        within = omega (arith, are.within, lower);
        rest = rest_after;
        kept = are.kept;
        sound = are.sound;
        whole = λ i k r ne tail. elim (are.whole i k r ne tail) [
          | inl has ↦ inl has
          | inr more ↦ elim (on_list_after k more) [
            | inl same ↦ absurd (ne (omega (arith, e, head_is, same)))
            | inr later ↦ inr later
          ]
        ];
        added = counted_superset (λ i k h. (h.0, omega (arith, h.1, lower, some))) are.added;
      }

      -- another column, whose tail is added
      module _ (ne : head ≢ longest) (now_steps : ℕ)
          (tail : CountsPairs (λ i k. (head ≡ suc k) × IsInColumn offsets rows k i) steps now_steps)
        where
          pub tail_counted : CountsPairs (λ i k. (IsOnList nexts first k × (longest ≢ suc k)
              × IsInColumn offsets rows k i) × (after ≤ k)) before now_steps
          tail_counted =
              counted_superset (λ i k h. elim h [
                | inl was ↦ (was.0, omega (arith, was.1, lower, some))
                | inr new ↦
                    let same : head - 1 ≡ k = omega (arith, new.0) in (
                      (
                        subst (IsOnList nexts first) same head_is_on_list,
                        λ e. ne (omega (arith, e, new.0)),
                        new.1,
                      ),
                      omega (arith, lower, same),
                    )
              ]) (counted_both are.added tail (λ i k was new. omega (arith, was.1, new.0)))

          pub tail_merged : (more : List ℕ)
              → ((i : ℕ) → Contains more i ↔ (Contains now i ⊎ IsInTailOf offsets rows head i))
              → AreTailsMerged offsets rows nexts first longest old more before now_steps after
          tail_merged more grown = record {
            within = omega (arith, are.within, lower);
            rest = rest_after;
            kept = λ i h. (grown i).1 (inl (are.kept i h));
            sound = λ i h. elim ((grown i).0 h) [
              | inl was ↦ are.sound i was
              | inr new ↦
                  let (k, e, is_in) = new in
                  let same : head - 1 ≡ k = omega (arith, e) in
                  inr (k, subst (IsOnList nexts first) same head_is_on_list, is_in)
            ];
            whole = λ i k r other is_in. elim (are.whole i k r other is_in) [
              | inl has ↦ inl ((grown i).1 (inl has))
              | inr later ↦ elim (on_list_after k later) [
                | inl same ↦
                    let e : head ≡ suc k = omega (arith, same, head_is) in
                    inl ((grown i).1 (inr (k, e, is_in)))
                | inr after ↦ inr after
              ]
            ];
            added = tail_counted;
          }
