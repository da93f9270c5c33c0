-- Values of a scratch row, read at the indices of a strictly increasing lane and then set to zero
-- there.
use Rattle.std.proofs.Common.{◌≡◌, ℕ, ◌+◌, ◌<◌, inl, inr, List}
use Rattle.std.proofs.Common.{◌++◌, length, take, get_or, map, set}
use Rattle.std.proofs.Common.{Contains, ap, sym, ◌∙◌, refl, arith}
use Rattle.std.specs.List.Sorted.{IsStrictlyIncreasing}
use Rattle.std.proofs.lemmas.Bool.{cases_eq}
use Rattle.std.proofs.lemmas.List.{get_or-set_same, get_or-set_other, get_or_past}
use Rattle.std.proofs.lemmas.List.{get_or-map, length-map}
use Rattle.sparse_algebra.proofs.Cases.{lt_or_ge}
use Rattle.sparse_algebra.specs.Algebra.{CommRing}
use Rattle.sparse_sums.proofs.Merging.{more, less_than_next}
use Rattle.sparse_products.specs.InnerProducts.{GainsExtracted, IsExtracted}

-- an index of a strictly increasing lane does not occur before itself
pub not_before : (js : List ℕ) (p : ℕ) → IsStrictlyIncreasing js → p < length js
    → Contains (take p js) (get_or js p 0) → ⊥
not_before js p rising lt h = omega (arith, less_than_next js p (get_or js p 0) rising lt h)

-- clearing the row at the first p + 1 indices, from the first p
pub extracted_more : {T : Type 0} {z : T} {start row : List T} (js : List ℕ) (p : ℕ) → p < length js
    → get_or js p 0 < length row → IsExtracted z (take p js) start row
    → IsExtracted z (take (p + 1) js) start (set row (get_or js p 0) z)
extracted_more {z = z} {row = row} js p lt within was =
    let j = get_or js p 0 in
    let front = λ (k : ℕ). more js p j k lt refl in
    record {
      cleared = λ k. elim (cases_eq k j) [
        | inl same ↦ inl
            (ap (λ k. get_or (set row j z) k z) same ∙ get_or-set_same row j z z within)
        | inr differ ↦ elim (was.cleared k) [
          | inl zero ↦ inl (get_or-set_other row j k z z differ ∙ zero)
          | inr none ↦ inr (λ h. elim ((front k).0 h) [
            | inl before ↦ none before
            | inr same ↦ differ (sym same)
          ])
        ]
      ];
      kept = λ k none. get_or-set_other row j k z z (λ e. none ((front k).1 (inr (sym e))))
          ∙ was.kept k (λ h. none ((front k).1 (inl h)));
    }

-- appending the values of a row at the indices of a lane, where they represent x
pub values_extracted : {R : CommRing} {T : Type 0} {f : T → R.Carrier} {z : T} {x : ℕ → R.Carrier}
    (row : List T) {old new : List T} {js : List ℕ} → new ≡ old ++ map (λ j. get_or row j z) js
    → ((q : ℕ) → q < length js → f (get_or row (get_or js q 0) z) ≡ x (get_or js q 0))
    → GainsExtracted R f z old new js x
values_extracted {f = f} {z} row {js = js} is same = record {
  part = map (λ j. get_or row j z) js;
  pushed = is;
  count = length-map js (λ j. get_or row j z);
  values = λ q lt. ap f (get_or-map (λ j. get_or row j z) js q 0 z lt) ∙ same q lt;
}

-- a scratch row that is zero outside a lane is zero everywhere once it is cleared at the lane's
-- indices
pub left_zero : (R : CommRing) {T : Type 0} (f : T → R.Carrier) {z : T} {lane : List ℕ}
    (x : ℕ → R.Carrier) {row left : List T} → f z ≡ R.zero
    → ((j : ℕ) → (Contains lane j → ⊥) → x j ≡ R.zero)
    → ((j : ℕ) → j < length row → f (get_or row j z) ≡ x j) → IsExtracted z lane row left → (j : ℕ)
    → f (get_or left j z) ≡ R.zero
left_zero R f {z} x {row} zero elsewhere is_row extracted j = elim (extracted.cleared j) [
  | inl is ↦ ap f is ∙ zero
  | inr none ↦ ap f (extracted.kept j none) ∙ elim (lt_or_ge j (length row)) [
    | inl lt ↦ is_row j lt ∙ elsewhere j none
    | inr past ↦ ap f (get_or_past row j z past) ∙ zero
  ]
]
