-- Looking up the entries of an operand, or of its transpose, in the pattern of a target.
use Rattle.std.proofs.Common.{◌≡◌, ◌≢◌, ℕ, ◌⊎◌, inl, inr, true, false, List, []}
use Rattle.std.proofs.Common.{◌∷◌, Some, None, length, get_or, set, suc, All, Contains, ap, sym}
use Rattle.std.proofs.Common.{subst, ◌∙◌, refl, arith}
use Rattle.std.proofs.lemmas.Bool.{cases_eq}
use Rattle.std.proofs.lemmas.List.{length-set, get_or-set_same, get_or-set_other}
use Rattle.std.proofs.lemmas.List.Elements.{All-tail}
use Rattle.std.proofs.lemmas.Option.{none-some}
use Rattle.sparse_algebra.proofs.Cases.{true_or_false}
use Rattle.sparse_algebra.specs.Algebra.{CommRing}
use Rattle.sparse_algebra.specs.Sums.{where_true}
use Rattle.sparse_algebra.specs.Plain.{is_at}
use Rattle.sparse_algebra.proofs.RingLemmas.{zero_add, mul_zero}
use Rattle.sparse_algebra.proofs.SumLemmas.{where_yes, where_no}
use Rattle.sparse_pattern.specs.Raw.{Raw, IsValid, IsEntry, entries_of}
use Rattle.sparse_pattern.proofs.LaneOrder.{contains_cases, Contains-entries_of}
use Rattle.sparse_pattern.proofs.OffsetsInLanes.{one_lane, one_offset}
use Rattle.sparse_compressed.specs.Compressed.{Compressed, IsOffset, lane_triplets}
use Rattle.sparse_compressed.specs.PlainOfLanes.{plain_of_rows}
use Rattle.sparse_compressed.specs.StoredEntries.{find_offset}
use Rattle.sparse_compressed.proofs.Arrays.{value_at, pair_is, test_yes}
use Rattle.sparse_compressed.proofs.Arrays.{offset_within}
use Rattle.sparse_compressed.proofs.LaneSearch.{find_offset-is_offset}
use Rattle.sparse_sums.specs.InnerTargets.{ContainsPatternOf}

module _ (d : Raw) (valid : IsValid d) where
  -- if the look-up of (i, j) finds nothing, the pattern has no entry there
  pub missed : (i j : ℕ) → find_offset d i j ≡ None → IsEntry d i j → ⊥
  missed i j none place = none-some place.at
      (sym none ∙ (find_offset-is_offset d valid i j place.at).1 (place.in_lane, place.index))

  pub found_entry : (i j p : ℕ) → find_offset d i j ≡ Some p → IsEntry d i j
  found_entry i j p is = let at = (find_offset-is_offset d valid i j p).0 is in record
      { at = p; in_lane = at.0; index = at.1 }

-- ---- whether the target covers a transpose

-- the operand has an entry at each (i, j) of `rest`, and for each other entry of it the target has one at (j, i)
pub record AreCovered (d a : Raw) (rest : List (ℕ × ℕ)) : Type 0 where
  pub entries : (i j : ℕ) → Contains rest (i, j) → IsEntry a i j
  pub covered : (i j : ℕ) → IsEntry a i j → Contains rest (i, j) ⊎ IsEntry d j i

pub none_covered : (d a : Raw) → IsValid a → AreCovered d a (entries_of a)
none_covered d a valid = record {
  entries = λ i j h. (Contains-entries_of a valid i j).0 h;
  covered = λ i j place. inl ((Contains-entries_of a valid i j).1 place);
}

module _ {d a : Raw} {rest more : List (ℕ × ℕ)} {i j : ℕ} (next : rest ≡ (i, j) ∷ more)
    (so_far : AreCovered d a rest) where
  pub next_is_entry : IsEntry a i j
  next_is_entry = so_far.entries i j
      (subst (λ xs. Contains xs (i, j)) (sym next) (0, omega arith, refl))

  pub covered_more : IsEntry d j i → AreCovered d a more
  covered_more place = record {
    entries = λ k l h. so_far.entries k l
        (subst (λ xs. Contains xs (k, l)) (sym next) (suc h.0, omega (arith, h.1), h.2));
    covered = λ k l here. elim (so_far.covered k l here) [
      | inl left ↦
          elim (contains_cases (i, j) (k, l) more (subst (λ xs. Contains xs (k, l)) next left)) [
            | inl same ↦ inr (rw (sym (ap (λ x. x.0) same), sym (ap (λ x. x.1) same)) place)
            | inr later ↦ inl later
          ]
      | inr done ↦ inr done
    ];
  }

pub all_covered : {d a : Raw} {rest : List (ℕ × ℕ)} → rest ≡ [] → AreCovered d a rest
    → ContainsPatternOf d true a
all_covered end so_far i j place = elim (so_far.covered i j place) [
  | inl left ↦ absurd (omega (arith, (subst (λ xs. Contains xs (i, j)) end left).1))
  | inr there ↦ there
]

-- ---- adding the values of a transpose

-- the values of the target before the triplets of `rest` are added, each with row and column exchanged
pub record AreAdding (R : CommRing) {T : Type 0} (f : T → R.Carrier) (z : T) (d : Raw)
    (alpha : R.Carrier) (all rest : List (ℕ × ℕ × T)) (start now : List T) : Type 0 where
  pub count : length now ≡ length start
  pub entries : All (λ t. IsEntry d t.1 t.0) rest
  pub sums : (i j p : ℕ) → IsOffset d i j p
      → R.add (f (get_or now p z)) (R.mul alpha (value_at R f rest j i)) ≡ R.add
      (f (get_or start p z)) (R.mul alpha (value_at R f all j i))

module _ {R : CommRing} {T : Type 0} {f : T → R.Carrier} {z : T} {d : Raw} {alpha : R.Carrier}
    {all rest : List (ℕ × ℕ × T)} {start now : List T} (valid : IsValid d)
    (so_far : AreAdding R f z d alpha all rest start now) where
  module _ {more : List (ℕ × ℕ × T)} {t : ℕ × ℕ × T} (next : rest ≡ t ∷ more) where
    pub next_entry : IsEntry d t.1 t.0
    next_entry = subst (All (λ t. IsEntry d t.1 t.0)) next so_far.entries 0 t (omega arith)

    module _ (long : length start ≡ length d.indices) (q : ℕ)
        (found : find_offset d t.1 t.0 ≡ Some q) (w : T)
        (added : f w ≡ R.add (f (get_or now q z)) (R.mul alpha (f t.2))) where
      at : IsOffset d t.1 t.0 q
      at = (find_offset-is_offset d valid t.1 t.0 q).0 found

      rest_is : (i j : ℕ) → value_at R f rest j i
          ≡ R.add (where_true R (is_at j i t) (f t.2)) (value_at R f more j i)
      rest_is i j = ap (λ ts. value_at R f ts j i) next

      same_entry : (i j : ℕ) → IsOffset d i j q → is_at j i t ≡ true
      same_entry i j here =
          rw (one_lane d valid i t.1 q here.0 at.0, sym here.1 ∙ at.1) (test_yes t.0 t.1)

      other_entry : (i j p : ℕ) → IsOffset d i j p → p ≢ q → is_at j i t ≡ false
      other_entry i j p here differs = elim (true_or_false (is_at j i t)) [
        | inl hit ↦
            let pair = pair_is (t.0, t.1) j i hit in
            let there : IsOffset d i j q = subst (λ (x : ℕ × ℕ). IsOffset d x.1 x.0 q) pair at
            in
            absurd (differs (one_offset d valid i p q here.0 there.0 (here.1 ∙ sym there.1)))
        | inr miss ↦ miss
      ]

      pub adding_more : AreAdding R f z d alpha all more start (set now q w)
      adding_more = record {
        count = length-set now q w ∙ so_far.count;
        entries = All-tail (λ t. IsEntry d t.1 t.0) t more
            (subst (All (λ t. IsEntry d t.1 t.0)) next so_far.entries);
        sums = λ i j p here.
            let v = f t.2 in
            let m = value_at R f more j i in
            elim (cases_eq p q) [
              | inl same ↦
                  let old = f (get_or now q z) in
                  let whole : value_at R f rest j i ≡ R.add v m = rest_is i j
                  ∙ ap (λ c. R.add c m) (where_yes R (is_at j i t) v
                  (same_entry i j (subst (IsOffset d i j) same here))) in
                  ap (λ k. R.add (f (get_or (set now q w) k z)) (R.mul alpha m)) same
                  ∙ ap (λ x. R.add (f x) (R.mul alpha m)) (get_or-set_same now q w z
                  (omega (arith, offset_within d valid t.1 t.0 q at, long, so_far.count)))
                  ∙ ap (λ x. R.add x (R.mul alpha m)) added
                  ∙ R.laws.add_assoc old (R.mul alpha v) (R.mul alpha m)
                  ∙ ap (R.add old) (sym (R.laws.distrib alpha v m) ∙ ap (R.mul alpha) (sym whole))
                  ∙ ap (λ k. R.add (f (get_or now k z)) (R.mul alpha (value_at R f rest j i)))
                  (sym same) ∙ so_far.sums i j p here
              | inr differs ↦
                  let whole : value_at R f rest j i ≡ m = rest_is i j ∙ ap (λ c. R.add c m)
                  (where_no R (is_at j i t) v (other_entry i j p here differs)) ∙ zero_add R m in
                  ap (λ x. R.add (f x) (R.mul alpha m)) (get_or-set_other now q p w z differs)
                  ∙ ap (λ c. R.add (f (get_or now p z)) (R.mul alpha c)) (sym whole)
                  ∙ so_far.sums i j p here
            ];
      }

-- once `rest` is empty, the whole operand has been added
pub all_added : {R : CommRing} {T : Type 0} {f : T → R.Carrier} {z : T} {d : Raw}
    {alpha : R.Carrier} (a : Compressed T) {rest : List (ℕ × ℕ × T)} {start now : List T}
    → AreAdding R f z d alpha (lane_triplets a) rest start now → rest ≡ [] → (i j p : ℕ)
    → IsOffset d i j p
    → f (get_or now p z) ≡ R.add (f (get_or start p z))
    (R.mul alpha ((plain_of_rows R f a).value j i))
all_added {R} {f = f} {z} {alpha = alpha} a {rest} {now = now} so_far end i j p here =
    let none : R.mul alpha (value_at R f rest j i) ≡ R.zero =
    ap (λ ts. R.mul alpha (value_at R f ts j i)) end ∙ mul_zero R alpha in
    sym (R.laws.add_zero _) ∙ ap (R.add (f (get_or now p z))) (sym none) ∙ so_far.sums i j p here
