-- The laws of `==`.
use Rattle.std.specs.Prelude.{Bool}
use Rattle.std.specs.Cmp.{IsPartialEquivalence, IsEquivalence, and_per, on_per, and_equiv, on_equiv}
use Rattle.std.specs.Cmp.{partial_equiv_from_equiv}
use Rattle.std.specs.Cmp.Lexicographic.{lists_per, lists_equiv}
use Rattle.std.specs.Cmp.Rules.{comparing}
use Rattle.std.proofs.Common.{rules}
use Rattle.sparse_pattern.specs.Raw.{raw_eq}
use Rattle.sparse_compressed.specs.Compressed.{compressed_eq}

raw_equiv : IsEquivalence raw_eq
raw_equiv = search (comparing, rules)

module _ {T : Type 0} {E : T → T → Bool} where
  pub compressed_eq-laws : IsPartialEquivalence E → IsPartialEquivalence (compressed_eq E)
  compressed_eq-laws laws = and_per (on_per (λ m. m.pattern) (partial_equiv_from_equiv raw_equiv))
      (on_per (λ m. m.values) (lists_per laws))

  pub compressed_eq-equiv : IsEquivalence E → IsEquivalence (compressed_eq E)
  compressed_eq-equiv laws = and_equiv (on_equiv (λ m. m.pattern) raw_equiv)
      (on_equiv (λ m. m.values) (lists_equiv laws))
