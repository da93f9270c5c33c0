-- The rows of a nested column from row j on are the first of those of the next column from row j on.
use Rattle.std.proofs.Common.{◌≡◌, ℕ, ◌+◌, ◌-◌, ◌<◌, ◌≤◌, inl, inr, length}
use Rattle.std.proofs.Common.{slice_index, ap, sym, ◌∙◌, arith}
use Rattle.sparse_algebra.proofs.Cases.{three, lt_or_ge}
use Rattle.sparse_pattern.specs.Raw.{Raw, start_of, end_of, lane_of, IsInLane, IsValid}
use Rattle.sparse_pattern.proofs.PatternLanes.{length-lane, get_or-lane, rises_at}
use Rattle.sparse_factor.specs.InnerNested.{AreFirstRows, IsNested}

-- first rows of first rows
pub first_of_first : {p : Raw} {k c l d m e : ℕ} → AreFirstRows p k c l d → AreFirstRows p l d m e
    → AreFirstRows p k c m e
first_of_first {k = k} {c} {d = d} one two =
    let fits = one.fits in
    record {
      from = two.from;
      fits = let next = two.fits in omega (arith, fits, next);
      same = λ i lt. two.same i (omega (arith, lt, fits)) ∙ one.same i lt;
    }

module _ {p : Raw} (valid : IsValid p) {k j c d : ℕ} (nested : IsNested p k)
    (here : IsInLane p k c) (is : slice_index p.indices c ≡ j) (next : IsInLane p (k + 1) d)
    (is_next : slice_index p.indices d ≡ j) where
  abbrev l : ℕ
  l = k + 1

  abbrev s : ℕ
  s = start_of p k

  abbrev t : ℕ
  t = start_of p (k + 1)

  size : end_of p k - s ≤ end_of p l - t + 1
  size = let fits = nested.rest.fits in
      omega (
        arith,
        fits,
        length-lane p k (valid.lanes k here.lane),
        length-lane p l (valid.lanes l next.lane),
      )

  -- the rows behind the first of column k are the first of the next column
  same_rows : (i : ℕ) → s + (i + 1) < end_of p k
      → slice_index p.indices (t + i) ≡ slice_index p.indices (s + (i + 1))
  same_rows i lt =
      let first = valid.lanes k here.lane in
      let second = valid.lanes l next.lane in
      let in_first : i + 1 < length (lane_of p k) = omega (arith, lt, length-lane p k first) in
      let in_second : i < length (lane_of p l) =
      omega (arith, lt, size, length-lane p l second) in
      sym (get_or-lane p l second i in_second) ∙ nested.rest.same i in_first
      ∙ get_or-lane p k first (i + 1) in_first

  -- row j is not the first of column k, or else the only one
  only_one : c ≡ s → end_of p k ≤ c + 1
  only_one e = elim (lt_or_ge (c + 1) (end_of p k)) [
    | inl more ↦
        let first = same_rows 0 (omega (arith, more, e)) in
        let up = rises_at p k (valid.lanes k here.lane) c (s + (0 + 1)) here.from
        (omega (arith, e)) (omega (arith, more, e)) in
        let start : t + 0 ≡ t = omega arith in
        let low = ap (slice_index p.indices) (sym start) ∙ first in
        elim (three t d) [
          | inl less ↦
              let r = rises_at p l (valid.lanes l next.lane) t d (omega arith) less next.to in
              absurd (omega (arith, r, low, up, is, is_next))
          | inr (inl less) ↦ let from = next.from in absurd (omega (arith, less, from))
          | inr (inr same) ↦
              let r = ap (slice_index p.indices) same in
              absurd (omega (arith, r, low, up, is, is_next))
        ]
    | inr less ↦ less
  ]

  -- row j is at the same place in the first rows of the next column
  moved_place : s < c → d + (s + 1) ≡ t + c
  moved_place more =
      let i = c - s - 1 in
      let there : s + (i + 1) ≡ c = omega (arith, more) in
      let to = here.to in
      let found : slice_index p.indices (t + i) ≡ j =
      same_rows i (omega (arith, there, to)) ∙ ap (slice_index p.indices) there ∙ is in
      let inside : t + i < end_of p l = omega (arith, there, to, size) in
      elim (three (t + i) d) [
        | inl less ↦
            let r = rises_at p l (valid.lanes l next.lane) (t + i) d (omega arith) less next.to in
            absurd (omega (arith, r, found, is_next))
        | inr (inl less) ↦
            let r = rises_at p l (valid.lanes l next.lane) d (t + i) next.from less inside in
            absurd (omega (arith, r, found, is_next))
        | inr (inr same) ↦ omega (arith, same, there)
      ]

  pub first_rows : AreFirstRows p k c l d
  first_rows = elim (three s c) [
    | inl more ↦
        let place = moved_place more in
        record {
          from = next.from;
          fits = let to = here.to in omega (arith, place, size, more, to);
          same = λ i lt.
              let e : d + i ≡ t + (c - s - 1 + i) = omega (arith, place, more) in
              let e' : s + (c - s - 1 + i + 1) ≡ c + i = omega (arith, more) in
              ap (slice_index p.indices) e
              ∙ same_rows (c - s - 1 + i) (omega (arith, e', lt))
              ∙ ap (slice_index p.indices) e';
        }
    | inr (inl less) ↦ let from = here.from in absurd (omega (arith, less, from))
    | inr (inr same) ↦
        let one = only_one (sym same) in
        record {
          from = next.from;
          fits = let to = next.to in omega (arith, one, to);
          same = λ i lt.
              let none : i ≡ 0 = omega (arith, lt, one) in
              let e : d + i ≡ d = omega (arith, none) in
              let e' : c ≡ c + i = omega (arith, none) in
              ap (slice_index p.indices) e ∙ is_next ∙ sym is ∙ ap (slice_index p.indices) e';
        }
  ]
