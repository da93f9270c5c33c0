-- The values of two lanes whose indices are merged: each entry appended adds its value to the sum at its index.
use Rattle.std.proofs.Common.{◌≡◌, ℕ, ◌+◌, ◌<◌, ◌≤◌, ◌⊎◌, Bool, true, false, List, []}
use Rattle.std.proofs.Common.{◌∷◌, ◌++◌, length, get_or, map, take, drop, length-append}
use Rattle.std.proofs.Common.{append_assoc, ap, sym, ◌∙◌, refl, arith}
use Rattle.std.specs.Prelude.{nat_eq, zip}
use Rattle.std.proofs.lemmas.List.{append-nil, get_or_default, length_push, length-map}
use Rattle.std.proofs.lemmas.List.{length-take-le, length-drop, take-append-drop}
use Rattle.std.proofs.lemmas.List.{map-append, append_cancel_left}
use Rattle.sparse_algebra.specs.Algebra.{CommRing}
use Rattle.sparse_algebra.specs.Sums.{sum_by, where_true}
use Rattle.sparse_algebra.proofs.RingLemmas.{zero_add, add_cross}
use Rattle.sparse_compressed.specs.InnerLaneValue.{lane_value}
use Rattle.sparse_compressed.proofs.AddedLanes.{sum_zip_more}
use Rattle.sparse_sums.specs.InnerMerging.{IsMerged}
use Rattle.sparse_sums.specs.InnerAdding.{IsLane, IsAdding, GainsSum}
use Rattle.sparse_sums.specs.InnerAdding.{GainsEntries, element_at}
use Rattle.sparse_sums.specs.InnerExtensions.{IsExtended}
use Rattle.sparse_sums.proofs.Merging.{merging_first, merging_second, merging_both, none_merged}
use Rattle.sparse_sums.proofs.Merging.{rest_merged, with_index}

-- where_true of a sum is the sum of where_true of both terms
where_add : (R : CommRing) (b : Bool) (x y : R.Carrier)
    → where_true R b (R.add x y) ≡ R.add (where_true R b x) (where_true R b y)
where_add R true x y = refl
where_add R false x y = sym (R.laws.add_zero R.zero)

where_zero : (R : CommRing) (b : Bool) → where_true R b R.zero ≡ R.zero
where_zero R true = refl
where_zero R false = refl

module _ (R : CommRing) {T : Type 0} where
  -- a sum over the pairs of two concatenated lists is the sum over both
  pub sum_zip-append : (g : ℕ × T → R.Carrier) (ks ls : List ℕ) (us vs : List T)
      → length us ≡ length ks
      → sum_by R g (zip (ks ++ ls) (us ++ vs)) ≡ R.add (sum_by R g (zip ks us))
      (sum_by R g (zip ls vs))
  sum_zip-append g [] ls [] vs e = sym (zero_add R _)
  sum_zip-append g [] ls (u ∷ us) vs e = absurd (omega arith)
  sum_zip-append g (k ∷ ks) ls [] vs e = absurd (omega arith)
  sum_zip-append g (k ∷ ks) ls (u ∷ us) vs e =
      ap (R.add (g (k, u))) (sum_zip-append g ks ls us vs (omega arith))
      ∙ sym (R.laws.add_assoc _ _ _)

  module _ (f : T → R.Carrier) where
    pub lane_value-append : (ks ls : List ℕ) (us vs : List T) (j : ℕ) → length us ≡ length ks
        → lane_value R f (ks ++ ls) (us ++ vs) j ≡ R.add (lane_value R f ks us j)
        (lane_value R f ls vs j)
    lane_value-append ks ls us vs j e = sum_zip-append (λ t. where_true R (nat_eq t.0 j) (f t.1)) ks
        ls us vs e

    pub lane_value_one : (k j : ℕ) (v : T)
        → lane_value R f (k ∷ []) (v ∷ []) j ≡ where_true R (nat_eq k j) (f v)
    lane_value_one k j v = R.laws.add_zero _

    -- the value at j in a prefix of a lane that is longer by the entry (k, v)
    pub lane_value_more : (ks : List ℕ) (vs : List T) (n k j : ℕ) (v : T) → n < length ks
        → length vs ≡ length ks → k ≡ get_or ks n 0 → v ≡ get_or vs n v
        → lane_value R f (take (n + 1) ks) (take (n + 1) vs) j ≡ R.add
        (lane_value R f (take n ks) (take n vs) j) (where_true R (nat_eq k j) (f v))
    lane_value_more ks vs n k j v lt long is is' =
        sum_zip_more R (λ t. where_true R (nat_eq t.0 j) (f t.1)) ks vs n k v lt (omega arith)
        (is ∙ get_or_default ks n 0 k lt) is'

    -- the value at j in a lane is the sum of those in a prefix and in the rest
    pub lane_value_parts : (ks : List ℕ) (vs : List T) (n j : ℕ) → length vs ≡ length ks
        → n ≤ length ks
        → lane_value R f ks vs j ≡ R.add (lane_value R f (take n ks) (take n vs) j)
        (lane_value R f (drop n ks) (drop n vs) j)
    lane_value_parts ks vs n j long le =
        ap (λ l. lane_value R f l vs j) (sym (take-append-drop n ks))
        ∙ ap (λ l. lane_value R f (take n ks ++ drop n ks) l j) (sym (take-append-drop n vs))
        ∙ lane_value-append (take n ks) (drop n ks) (take n vs) (drop n vs) j
        (length-take-le n vs (omega arith) ∙ sym (length-take-le n ks le))

-- the element at j in a prefix of a lane of elements that is longer by the entry (k, v)
element_at_more : (R : CommRing) (ks : List ℕ) (vs : List R.Carrier) (n k j : ℕ) (v : R.Carrier)
    → n < length ks → length vs ≡ length ks → k ≡ get_or ks n 0 → v ≡ get_or vs n R.zero
    → element_at R (take (n + 1) ks) (take (n + 1) vs) j ≡ R.add
    (element_at R (take n ks) (take n vs) j) (where_true R (nat_eq k j) v)
element_at_more R ks vs n k j v lt long is is' =
    lane_value_more R (λ x. x) ks vs n k j v lt long is
    (is' ∙ get_or_default vs n R.zero v (omega arith))

module _ (R : CommRing) (old : List ℕ) (us : List R.Carrier) (a : List ℕ) (av : List R.Carrier)
    (b : List ℕ) (bv : List R.Carrier) where
  pub none_added : IsAdding R old old us us a av b bv 0 0
  none_added = record {
    indices = none_merged old a b;
    values = [];
    values_pushed = sym (append-nil us);
    count = refl;
    sums = λ j. sym (R.laws.add_zero R.zero);
  }

  module _ (now : List ℕ) (ws : List R.Carrier) (p q : ℕ) (la : IsLane a av) (lb : IsLane b bv)
      (m : IsAdding R old now us ws a av b bv p q) (x : ℕ) (v : R.Carrier) where
    -- the value that an entry with index x and element c adds at j
    abbrev at : ℕ → R.Carrier → R.Carrier
    at j c = where_true R (nat_eq x j) c

    abbrev A : ℕ → ℕ → R.Carrier
    A p j = element_at R (take p a) (take p av) j

    abbrev B : ℕ → ℕ → R.Carrier
    B q j = element_at R (take q b) (take q bv) j

    -- appending (x, v), where v is the sum of c, from the first lane, and d, from the second
    adding_more : {p' q' : ℕ} → IsMerged a b p' q' (m.indices.lane ++ x ∷ [])
        → {c d : R.Carrier} → v ≡ R.add c d → ((j : ℕ) → A p' j ≡ R.add (A p j) (at j c))
        → ((j : ℕ) → B q' j ≡ R.add (B q j) (at j d))
        → IsAdding R old (now ++ x ∷ []) us (ws ++ v ∷ []) a av b bv p' q'
    adding_more {p'} merged {c} {d} is more_a more_b = record {
      indices = with_index m.indices x merged;
      values = m.values ++ v ∷ [];
      values_pushed = ap (λ l. l ++ v ∷ []) m.values_pushed ∙ append_assoc us m.values (v ∷ []);
      count = length_push m.values v ∙ ap (λ n. n + 1) m.count
          ∙ sym (length_push m.indices.lane x);
      sums = λ j. lane_value-append R (λ x. x) m.indices.lane (x ∷ []) m.values (v ∷ []) j m.count
          ∙ ap (R.add (element_at R m.indices.lane m.values j)) (lane_value_one R (λ x. x) x j v
          ∙ ap (at j) is ∙ where_add R (nat_eq x j) c d)
          ∙ ap (λ s. R.add s (R.add (at j c) (at j d))) (m.sums j)
          ∙ add_cross R (A p j) (B q j) (at j c) (at j d)
          ∙ ap (λ s. R.add s (R.add (B q j) (at j d))) (sym (more_a j))
          ∙ ap (R.add (A p' j)) (sym (more_b j));
    }

    -- a lane without an entry at x adds zero
    none_more : (j : ℕ) (s : R.Carrier) → s ≡ R.add s (at j R.zero)
    none_more j s = sym (ap (R.add s) (where_zero R (nat_eq x j)) ∙ R.laws.add_zero s)

    pub adding_first : (lt : p < length a) → (is : x ≡ get_or a p 0)
        → (q < length b → x < get_or b q 0) → v ≡ get_or av p R.zero
        → IsAdding R old (now ++ x ∷ []) us (ws ++ v ∷ []) a av b bv (p + 1) q
    adding_first lt is before read = adding_more
        (merging_first m.indices x la.rising lb.rising lt is before).merged
        (sym (R.laws.add_zero v)) (λ j. element_at_more R a av p x j v lt la.count is read)
        (λ j. none_more j (B q j))

    pub adding_second : (lt : q < length b) → (is : x ≡ get_or b q 0)
        → (p < length a → x < get_or a p 0) → v ≡ get_or bv q R.zero
        → IsAdding R old (now ++ x ∷ []) us (ws ++ v ∷ []) a av b bv p (q + 1)
    adding_second lt is before read = adding_more
        (merging_second m.indices x la.rising lb.rising lt is before).merged
        (sym (zero_add R v)) (λ j. none_more j (A p j))
        (λ j. element_at_more R b bv q x j v lt lb.count is read)

    pub adding_both : (lt : p < length a) → (lt' : q < length b) → (is : x ≡ get_or a p 0)
        → (is' : x ≡ get_or b q 0)
        → (s t : R.Carrier) → s ≡ get_or av p R.zero → t ≡ get_or bv q R.zero → v ≡ R.add s t
        → IsAdding R old (now ++ x ∷ []) us (ws ++ v ∷ []) a av b bv (p + 1) (q + 1)
    adding_both lt lt' is is' s t read read' sum = adding_more
        (merging_both m.indices x la.rising lb.rising lt lt' is is').merged sum
        (λ j. element_at_more R a av p x j s lt la.count is read)
        (λ j. element_at_more R b bv q x j t lt' lb.count is' read')

-- ---- the rest of the lane that has not ended

module _ (R : CommRing) (old : List ℕ) (us : List R.Carrier) (a : List ℕ) (av : List R.Carrier)
    (b : List ℕ) (bv : List R.Carrier) (la : IsLane a av) (lb : IsLane b bv) where
  pub rest_added : (now : List ℕ) (ws : List R.Carrier) (p q : ℕ) → p ≤ length a → q ≤ length b
      → (p ≡ length a) ⊎ (q ≡ length b) → IsAdding R old now us ws a av b bv p q
      → GainsSum R old ((now ++ drop p a) ++ drop q b) us ((ws ++ drop p av) ++ drop q bv) a av b bv
  rest_added now ws p q p_le q_le end m =
      let gains = rest_merged la.rising lb.rising end m.indices in
      let lane = m.indices.lane in
      let count_front : length (m.values ++ drop p av) ≡ length (lane ++ drop p a) =
      omega (
        arith,
        length-append m.values (drop p av),
        length-append lane (drop p a),
        m.count,
        length-drop p av,
        length-drop p a,
        la.count,
      ) in
      record {
        lane = (lane ++ drop p a) ++ drop q b;
        values = (m.values ++ drop p av) ++ drop q bv;
        pushed = gains.pushed;
        values_pushed = ap (λ l. l ++ drop q bv) (ap (λ l. l ++ drop p av) m.values_pushed
            ∙ append_assoc us m.values (drop p av))
            ∙ append_assoc us (m.values ++ drop p av) (drop q bv);
        count = omega (
          arith,
          length-append (m.values ++ drop p av) (drop q bv),
          length-append (lane ++ drop p a) (drop q b),
          count_front,
          length-drop q bv,
          length-drop q b,
          lb.count,
        );
        rising = gains.rising;
        holds = gains.holds;
        sums = λ j.
            let A = element_at R (take p a) (take p av) j in
            let A' = element_at R (drop p a) (drop p av) j in
            let B = element_at R (take q b) (take q bv) j in
            let B' = element_at R (drop q b) (drop q bv) j in
            let fronts : element_at R (lane ++ drop p a) (m.values ++ drop p av) j
            ≡ R.add (R.add A B) A' =
            lane_value-append R (λ x. x) lane (drop p a) m.values (drop p av) j m.count
            ∙ ap (λ c. R.add c A') (m.sums j) in
            lane_value-append R (λ x. x) (lane ++ drop p a) (drop q b) (m.values ++ drop p av)
            (drop q bv) j count_front
            ∙ ap (λ c. R.add c B') fronts
            ∙ R.laws.add_assoc (R.add A B) A' B' ∙ add_cross R A B A' B'
            ∙ ap (λ c. R.add c (R.add B B')) (sym (lane_value_parts R (λ x. x) a av p j la.count
            p_le))
            ∙ ap (R.add (element_at R a av j)) (sym (lane_value_parts R (λ x. x) b bv q j lb.count
            q_le));
      }

-- ---- lanes of values that represent elements

module _ (R : CommRing) {T : Type 0} (f : T → R.Carrier) where
  -- the element at j in the lane of the elements that values represent
  pub element_at-map : (ks : List ℕ) (vs : List T) (j : ℕ)
      → element_at R ks (map f vs) j ≡ lane_value R f ks vs j
  element_at-map [] vs j = refl
  element_at-map (k ∷ ks) [] j = refl
  element_at-map (k ∷ ks) (v ∷ vs) j =
      ap (R.add (where_true R (nat_eq k j) (f v))) (element_at-map ks vs j)

  -- lists of indices and values gain the entries that the elements of the values gain
  pub entries_gained : {old new : List ℕ} {us ws : List T} {P : ℕ → Type 0} {V V' : ℕ → R.Carrier}
      → IsExtended us ws → GainsEntries R (λ x. x) old new (map f us) (map f ws) P V
      → ((j : ℕ) → V j ≡ V' j) → GainsEntries R f old new us ws P V'
  entries_gained {us = us} more gains same =
      let meaning : map f more.values ≡ gains.values =
      append_cancel_left (map f us) (map f more.values) gains.values
      (sym (map-append f us more.values) ∙ ap (map f) (sym more.pushed) ∙ gains.values_pushed) in
      record {
        lane = gains.lane;
        values = more.values;
        pushed = gains.pushed;
        values_pushed = more.pushed;
        count = sym (length-map more.values f) ∙ ap length meaning ∙ gains.count;
        rising = gains.rising;
        holds = gains.holds;
        sums = λ j. sym (element_at-map gains.lane more.values j)
            ∙ ap (λ l. element_at R gains.lane l j) meaning ∙ gains.sums j ∙ same j;
      }
