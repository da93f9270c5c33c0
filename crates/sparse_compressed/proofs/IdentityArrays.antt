-- Offsets 0, 1, .., n, indices 0, 1, .., n - 1 and values 1 represent the identity.
use Rattle.std.proofs.Common.{◌≡◌, ℕ, ◌+◌, ◌<◌, ◌↔◌, true, ◌&&◌, List, get_or, ap, sym, ◌∙◌, refl}
use Rattle.std.proofs.Common.{arith}
use Rattle.std.specs.Prelude.{nat_eq, nat_lt}
use Rattle.std.proofs.lemmas.Bool.Decides.{nat_tests}
use Rattle.sparse_algebra.specs.Algebra.{CommRing}
use Rattle.sparse_pattern.specs.Raw.{raw_of, IsInLane, IsEntry}
use Rattle.sparse_algebra.specs.Plain.{plain_identity}
use Rattle.sparse_algebra.proofs.PlainLaws.{proper_identity}
use Rattle.sparse_compressed.specs.Compressed.{arrays_of, IsSound}
use Rattle.sparse_compressed.specs.PlainOfLanes.{plain_of_rows}
use Rattle.sparse_algebra.proofs.SumLemmas.{where_yes}
use Rattle.sparse_compressed.proofs.Arrays.{plain_of_rows-from_places}

on_diagonal : (i j n : ℕ) → ((nat_eq i j && nat_lt i n) ≡ true) ↔ ((i ≡ j) × (i < n))
on_diagonal i j n = (
  λ h. (grind (arith, nat_tests), grind (arith, nat_tests)),
  λ h. grind (arith, nat_tests),
)

module _ (n : ℕ) (offsets indices : List ℕ) (starts : (k : ℕ) → k < n + 1 → get_or offsets k 0 ≡ k)
    (own : (k : ℕ) → k < n → get_or indices k 0 ≡ k) where
  -- lane i has the one offset i
  offset_is : (i p : ℕ) → IsInLane (raw_of n n offsets indices) i p → p ≡ i
  offset_is i p h = omega (
    arith,
    starts i (omega (arith, h.lane)),
    starts (i + 1) (omega (arith, h.lane)),
    h.from,
    h.to,
  )

  in_own_lane : (i : ℕ) → i < n → IsInLane (raw_of n n offsets indices) i i
  in_own_lane i lt = record {
    lane = lt;
    from = omega (arith, starts i (omega arith));
    to =
        omega (arith, starts (i + 1) (omega arith));
  }

  diagonal_places : (i j : ℕ)
      → IsEntry (raw_of n n offsets indices) i j ↔ ((nat_eq i j && nat_lt i n) ≡ true)
  diagonal_places i j = (
    λ h. let same = offset_is i h.at h.in_lane in (on_diagonal i j n).1 (
      sym (own i h.in_lane.lane) ∙ ap (λ p. get_or indices p 0) (sym same) ∙ h.index,
      h.in_lane.lane,
    ),
    λ h. let d = (on_diagonal i j n).0 h in record
        { at = i; in_lane = in_own_lane i d.1; index = own i d.1 ∙ d.0 },
  )

  pub counting_is_identity : (R : CommRing) {T : Type 0} (f : T → R.Carrier) (z : T)
      (values : List T)
      → IsSound (arrays_of n n offsets indices values)
      → ((k : ℕ) → k < n → f (get_or values k z) ≡ R.one)
      → plain_of_rows R f (arrays_of n n offsets indices values) ≡ plain_identity R n
  counting_is_identity R f z values sound ones =
      plain_of_rows-from_places R f z (arrays_of n n offsets indices values) (plain_identity R n) sound
      (proper_identity R n) refl refl diagonal_places
      (λ i j p at.
      let same = offset_is i p at.0 in
      let place = (diagonal_places i j).0 (record { at = p; in_lane = at.0; index = at.1 }) in
      ap (λ q. f (get_or values q z)) same ∙ ones i at.0.lane
      ∙ sym (where_yes R (nat_eq i j && nat_lt i n) R.one place))
