-- The laws of `==` on lanes.
use Rattle.std.specs.Prelude.{Bool}
use Rattle.std.specs.Cmp.{IsPartialEquivalence, IsEquivalence, and_per, on_per, and_equiv, on_equiv}
use Rattle.std.specs.Cmp.{partial_equiv_from_equiv, nat_eq_equiv}
use Rattle.std.specs.Cmp.Lexicographic.{lists_per, lists_equiv}
use Rattle.sparse_compressed.specs.Lanes.{lane_indices_eq, lane_eq}

module _ {T : Type 0} where
  lane_indices_equiv : IsEquivalence (lane_indices_eq {T = T})
  lane_indices_equiv = and_equiv (on_equiv (λ l. l.minor_dim) nat_eq_equiv)
      (on_equiv (λ l. l.indices) (lists_equiv nat_eq_equiv))

  pub lane_eq-laws : {E : T → T → Bool} → IsPartialEquivalence E → IsPartialEquivalence (lane_eq E)
  lane_eq-laws laws = and_per (partial_equiv_from_equiv lane_indices_equiv)
      (on_per (λ l. l.values) (lists_per laws))

  pub lane_eq-equiv : {E : T → T → Bool} → IsEquivalence E → IsEquivalence (lane_eq E)
  lane_eq-equiv laws = and_equiv lane_indices_equiv (on_equiv (λ l. l.values) (lists_equiv laws))
