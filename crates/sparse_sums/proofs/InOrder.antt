-- One pass over a sorted target lane that finds each index of a sorted lane.
use Rattle.std.proofs.Common.{◌≡◌, ◌≢◌, ℕ, ◌+◌, ◌<◌, ◌≤◌, ◌⊎◌, inl, inr, ◌↔◌, List, length}
use Rattle.std.proofs.Common.{get_or, set, take, Contains, ap, sym, subst, ◌∙◌, refl, arith}
use Rattle.std.specs.Prelude.{nat_eq}
use Rattle.std.specs.List.Sorted.{IsStrictlyIncreasing}
use Rattle.std.proofs.lemmas.Bool.{cases_eq}
use Rattle.std.proofs.lemmas.List.{take_all, length-set, get_or-set_same, get_or-set_other}
use Rattle.std.proofs.lemmas.List.Elements.{Contains-get_or}
use Rattle.std.proofs.lemmas.List.Kept.{AllPairs-from_increasing}
use Rattle.sparse_algebra.proofs.Cases.{lt_or_ge, nat_eq_no}
use Rattle.sparse_algebra.specs.Algebra.{CommRing}
use Rattle.sparse_algebra.specs.Sums.{where_true}
use Rattle.sparse_algebra.proofs.RingLemmas.{mul_zero}
use Rattle.sparse_pattern.specs.Raw.{Raw, IsValid, IsEntry, start_of, lane_of}
use Rattle.sparse_pattern.proofs.LaneLists.{lane_has}
use Rattle.sparse_pattern.proofs.PatternLanes.{length-lane}
use Rattle.sparse_compressed.specs.Compressed.{Compressed, IsSound}
use Rattle.sparse_compressed.specs.InnerLaneValue.{lane_value}
use Rattle.sparse_compressed.specs.PlainOfLanes.{plain_of_rows}
use Rattle.sparse_algebra.proofs.SumLemmas.{where_no}
use Rattle.sparse_compressed.proofs.LaneValues.{values_of, lane_value_is}
use Rattle.sparse_compressed.proofs.AddedLanes.{eq_refl}
use Rattle.sparse_sums.specs.InnerTargets.{HasIndicesOf}
use Rattle.sparse_sums.proofs.Adding.{lane_value_more}
use Rattle.sparse_sums.proofs.Merging.{more, less_than_next}
use Rattle.sparse_sums.proofs.UpdatedLanes.{HasUpdatedLanes, lanes_more, at_offset, off_lane}

-- after p indices of the target, the first k indices of the lane are found, and the next one is not among those p
pub record IsFoundPrefix (target lane : List ℕ) (p k : ℕ) : Type 0 where
  pub most : k ≤ length lane
  pub passed : (j : ℕ) → Contains (take k lane) j → Contains (take p target) j
  pub missed : k < length lane → Contains (take p target) (get_or lane k 0) → ⊥

pub none_found : {target lane : List ℕ} → IsFoundPrefix target lane 0 0
none_found = record {
  most = omega arith;
  passed = λ j h. absurd (omega (arith, h.1));
  missed = λ _ h. absurd (omega (arith, h.1));
}

module _ {target lane : List ℕ} {p k : ℕ} (so_far : IsFoundPrefix target lane p k)
    (lt : p < length target) where
  front : (j : ℕ)
      → Contains (take (p + 1) target) j ↔ (Contains (take p target) j ⊎ (get_or target p 0 ≡ j))
  front j = more target p (get_or target p 0) j lt refl

  pub found_hit : IsStrictlyIncreasing target → IsStrictlyIncreasing lane → k < length lane
      → get_or target p 0 ≡ get_or lane k 0 → IsFoundPrefix target lane (p + 1) (k + 1)
  found_hit rt rl k_lt same = record {
    most = omega arith;
    passed = λ j h. grind (
      arith,
      front j,
      more lane k (get_or target p 0) j k_lt same,
      so_far.passed j,
      h,
    );
    missed = λ left h. elim ((front (get_or lane (k + 1) 0)).0 h) [
      | inl before ↦ omega (arith, less_than_next target p _ rt lt before, rl k left, same)
      | inr here ↦ omega (arith, rl k left, same, here)
    ];
  }

  pub found_miss : (k < length lane → get_or target p 0 ≡ get_or lane k 0 → ⊥)
      → IsFoundPrefix target lane (p + 1) k
  found_miss differs = record {
    most = so_far.most;
    passed = λ j h. (front j).1 (inl (so_far.passed j h));
    missed = λ left h. elim ((front (get_or lane k 0)).0 h)
        [ inl old ↦ so_far.missed left old | inr is ↦ differs left is ];
  }

-- at the end of the target all indices of the lane are found if and only if the target has them all
pub all_found : {target lane : List ℕ} {p k : ℕ} → IsFoundPrefix target lane p k → p ≡ length target
    → (k ≡ length lane) ↔ HasIndicesOf target lane
all_found {target} {lane} {p} {k} end whole =
    let all : take p target ≡ target = take_all p target (omega arith) in (
      λ every j h. subst (λ l. Contains l j) all
          (end.passed j (subst (λ l. Contains l j) (sym (take_all k lane (omega arith))) h)),
      λ covered. elim (lt_or_ge k (length lane)) [
        | inl left ↦ absurd (end.missed left (subst (λ l. Contains l (get_or lane k 0)) (sym all)
            (covered (get_or lane k 0) (Contains-get_or lane k 0 left))))
        | inr none ↦ omega (arith, end.most)
      ],
    )

-- ---- adding the values of the lane

-- the values of the target after p of its indices and k entries of the lane, which begin at the offset start
pub record IsAddingLane (R : CommRing) {T : Type 0} (f : T → R.Carrier) (z : T)
    (alpha : R.Carrier) (target lane : List ℕ) (us : List T) (start : ℕ) (old now : List T)
    (p k : ℕ) : Type 0 where
  pub count : length now ≡ length old
  pub passed : IsFoundPrefix target lane p k
  pub sums : (m : ℕ) → m < length target
      → f (get_or now (start + m) z) ≡ R.add (f (get_or old (start + m) z))
      (R.mul alpha (lane_value R f (take k lane) (take k us) (get_or target m 0)))
  pub kept : (x : ℕ) → (x < start) ⊎ (start + length target ≤ x) → get_or now x z ≡ get_or old x z

module _ {R : CommRing} {T : Type 0} {f : T → R.Carrier} {z : T} {alpha : R.Carrier}
    {target lane : List ℕ} {us : List T} {start : ℕ} {old : List T} where
  pub none_added : IsAddingLane R f z alpha target lane us start old old 0 0
  none_added = record {
    count = refl;
    passed = none_found;
    sums = λ m lt. sym (R.laws.add_zero _) ∙ ap (R.add (f (get_or old (start + m) z)))
        (sym (mul_zero R alpha));
    kept = λ x out. refl;
  }

  module _ {now : List T} {p k : ℕ}
      (so_far : IsAddingLane R f z alpha target lane us start old now p k)
      (lt : p < length target) where
    pub adding_miss : (k < length lane → get_or target p 0 ≡ get_or lane k 0 → ⊥)
        → IsAddingLane R f z alpha target lane us start old now (p + 1) k
    adding_miss differs = record {
      count = so_far.count;
      passed = found_miss so_far.passed lt differs;
      sums = so_far.sums;
      kept = so_far.kept;
    }

    module _ (rt : IsStrictlyIncreasing target) (rl : IsStrictlyIncreasing lane)
        (long : length us ≡ length lane) (inside : start + length target ≤ length old)
        (k_lt : k < length lane) (same : get_or target p 0 ≡ get_or lane k 0) {v w : T}
        (read : v ≡ get_or us k v) (added : f w ≡ R.add (f (get_or now (start + p) z))
        (R.mul alpha (f v))) where
      abbrev V : ℕ → ℕ → R.Carrier
      V n m = lane_value R f (take n lane) (take n us) (get_or target m 0)

      longer : (m : ℕ) → V (k + 1) m ≡ R.add (V k m)
          (where_true R (nat_eq (get_or target p 0) (get_or target m 0)) (f v))
      longer m = lane_value_more R f lane us k (get_or target p 0) (get_or target m 0) v k_lt long
          same read

      here : V (k + 1) p ≡ R.add (V k p) (f v)
      here = longer p ∙ ap (λ b. R.add (V k p) (where_true R b (f v))) (eq_refl (get_or target p 0))

      elsewhere : (m : ℕ) → m < length target → m ≢ p → V (k + 1) m ≡ V k m
      elsewhere m m_lt differs =
          let apart : get_or target p 0 ≢ get_or target m 0 =
          λ e. grind (
            arith,
            AllPairs-from_increasing target rt m p 0,
            AllPairs-from_increasing target rt p m 0,
            e,
            differs,
          ) in
          longer m ∙ ap (R.add (V k m)) (where_no R _ (f v)
          (nat_eq_no (get_or target p 0) (get_or target m 0) apart)) ∙ R.laws.add_zero (V k m)

      pub adding_hit : IsAddingLane R f z alpha target lane us start old (set now (start + p) w)
          (p + 1) (k + 1)
      adding_hit = record {
        count = length-set now (start + p) w ∙ so_far.count;
        passed = found_hit so_far.passed lt rt rl k_lt same;
        sums = λ m m_lt. elim (cases_eq m p) [
          | inl is ↦
              let was = f (get_or old (start + p) z) in
              ap (λ q. f (get_or (set now (start + p) w) (start + q) z)) is
              ∙ ap f (get_or-set_same now (start + p) w z (omega (arith, so_far.count)))
              ∙ added ∙ ap (λ c. R.add c (R.mul alpha (f v))) (so_far.sums p lt)
              ∙ R.laws.add_assoc was (R.mul alpha (V k p)) (R.mul alpha (f v))
              ∙ ap (R.add was) (sym (R.laws.distrib alpha (V k p) (f v))
              ∙ ap (R.mul alpha) (sym here))
              ∙ ap (λ q. R.add (f (get_or old (start + q) z)) (R.mul alpha (V (k + 1) q))) (sym is)
          | inr differs ↦
              ap f (get_or-set_other now (start + p) (start + m) w z
              (λ e. differs (omega (arith, e)))) ∙ so_far.sums m m_lt
              ∙ ap (λ c. R.add (f (get_or old (start + m) z)) (R.mul alpha c))
              (sym (elsewhere m m_lt differs))
        ];
        kept = λ x out. get_or-set_other now (start + p) x w z
            (λ e. elim out [
              | inl before ↦ omega (arith, before, e)
              | inr after ↦ omega (arith, after, e)
            ]) ∙ so_far.kept x out;
      }

-- ---- all lanes

-- lane i of d has the indices of lane i of a if and only if d has an entry wherever a has one in lane i
pub lane_covered : (d a : Raw) → IsValid d → IsValid a → a.major_dim ≡ d.major_dim → (i : ℕ)
    → i < a.major_dim
    → HasIndicesOf (lane_of d i) (lane_of a i) ↔ ((j : ℕ) → IsEntry a i j → IsEntry d i j)
lane_covered d a vd va lanes i lt =
    let here = λ (j : ℕ). lane_has a va i j lt in
    let there = λ (j : ℕ). lane_has d vd i j (omega arith) in (
      λ h j place. (there j).0 (h j ((here j).1 place)),
      λ h j has. (there j).1 (h j ((here j).0 has)),
    )

pub added_more : {R : CommRing} {T : Type 0} {f : T → R.Carrier} {z : T} {d : Raw}
    (a : Compressed T) {alpha : R.Carrier} {old now : List T} {n : ℕ}
    → HasUpdatedLanes R f z d f alpha (plain_of_rows R f a).value old now n
    → IsValid d → IsSound a → a.pattern.major_dim ≡ d.major_dim → n < d.major_dim → (new : List T)
    → ((m : ℕ) → m < length (lane_of d n) → f (get_or new (start_of d n + m) z) ≡ R.add
    (f (get_or now (start_of d n + m) z))
    (R.mul alpha (lane_value R f (lane_of a.pattern n) (values_of a n)
    (get_or (lane_of d n) m 0))))
    → ((p : ℕ) → (p < start_of d n) ⊎ (start_of d n + length (lane_of d n) ≤ p)
    → get_or new p z ≡ get_or now p z)
    → HasUpdatedLanes R f z d f alpha (plain_of_rows R f a).value old new (n + 1)
added_more {R} {f = f} {z} {d} a {alpha} {old} {now} {n} so_far vd sa lanes lt new added kept =
    let valid = vd.lanes n lt in
    lanes_more so_far vd lt new
    (λ p none. kept p (elim (off_lane d n p lt none) [
      | inl below ↦ inl below
      | inr past ↦ inr (omega (arith, length-lane d n valid, valid.ordered, past))
    ]))
    (λ j p at.
    let q = at_offset d n j p valid at in
    rw q.back at (added _ q.within)
    ∙ ap (λ c. R.add (f (get_or now p z)) (R.mul alpha c))
    (ap (lane_value R f (lane_of a.pattern n) (values_of a n)) q.index
    ∙ lane_value_is R f z a sa n (omega arith) j))
