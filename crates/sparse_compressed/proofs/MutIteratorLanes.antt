-- Lemmas for the mutable iterators: the lanes and triplets that they have not yielded.
use Rattle.std.proofs.Common.{◌≡◌, ℕ, zero, suc, ◌+◌, ◌-◌, ◌<◌, ◌≤◌, List, [], ◌∷◌, length, take}
use Rattle.std.proofs.Common.{drop, ap, sym, ◌∙◌, refl, arith}
use Rattle.std.proofs.lemmas.List.{drop-drop, length-take-le, length-drop}
use Rattle.sparse_pattern.specs.Raw.{Raw, start_of, end_of, lane_of}
use Rattle.sparse_compressed.specs.Compressed.{Compressed, IsSound, zip_values}
use Rattle.sparse_compressed.specs.Lanes.{lane_parts, lane_at, lanes_from, lanes_of}
use Rattle.sparse_compressed.specs.MutIterators.{lanes_with}

module _ {T : Type 0} where
  pub zip_values_none : (ps : List (ℕ × ℕ)) → zip_values {T = T} ps [] ≡ []
  zip_values_none [] = refl
  zip_values_none (p ∷ ps) = refl

  lanes_with_suc : (d : Raw) (i n m : ℕ) (values : List T) → n ≡ suc m
      → lanes_with d i n values ≡ lane_parts d.minor_dim (lane_of d i)
      (take (length (lane_of d i)) values) ∷ lanes_with d (i + 1) m
      (drop (length (lane_of d i)) values)
  lanes_with_suc d i n m values e = ap (λ k. lanes_with d i k values) e

  -- the next lane is lane i
  pub lanes_with_next : (d : Raw) (i : ℕ) (values : List T) → i < d.major_dim
      → lanes_with d i (d.major_dim - i) values
      ≡ lane_parts d.minor_dim (lane_of d i) (take (length (lane_of d i)) values) ∷ lanes_with d
      (i + 1) (d.major_dim - (i + 1)) (drop (length (lane_of d i)) values)
  lanes_with_next d i values lt = lanes_with_suc d i (d.major_dim - i) (d.major_dim - (i + 1))
      values (omega arith)

  -- past the last lane none is left
  pub lanes_with_end : (d : Raw) (i : ℕ) (values : List T) → d.major_dim ≤ i
      → lanes_with d i (d.major_dim - i) values ≡ []
  lanes_with_end d i values le =
      let none : d.major_dim - i ≡ 0 = omega arith in
      ap (λ k. lanes_with d i k values) none

  cut_lanes : (m : Compressed T) → IsSound m → (n i : ℕ) → i + n ≤ m.pattern.major_dim
      → lanes_with m.pattern i n (drop (start_of m.pattern i) m.values) ≡ lanes_from m i n
  cut_lanes m sound zero i le = refl
  cut_lanes m sound (suc n) i le =
      let d = m.pattern in
      let valid = sound.valid.lanes i (omega arith) in
      let len : length (lane_of d i) ≡ end_of d i - start_of d i =
      length-take-le (end_of d i - start_of d i) (drop (start_of d i) d.indices)
      (omega (arith, length-drop (start_of d i) d.indices, valid.inside)) in
      let ends : start_of d i + (end_of d i - start_of d i) ≡ end_of d i =
      omega (arith, valid.ordered) in
      let rest : drop (length (lane_of d i)) (drop (start_of d i) m.values) ≡ drop
      (start_of d (i + 1)) m.values =
      ap (λ k. drop k (drop (start_of d i) m.values)) len
      ∙ drop-drop (end_of d i - start_of d i) (start_of d i) m.values
      ∙ ap (λ k. drop k m.values) ends in
      ap (λ vs. lane_parts d.minor_dim (lane_of d i) vs ∷ lanes_with d (i + 1) n
      (drop (length (lane_of d i)) (drop (start_of d i) m.values)))
      (ap (λ k. take k (drop (start_of d i) m.values)) len)
      ∙ ap (λ vs. lane_at m i ∷ lanes_with d (i + 1) n vs) rest
      ∙ ap (λ ls. lane_at m i ∷ ls) (cut_lanes m sound n (i + 1) (omega arith))

  -- cutting the values by lanes gives the lanes of the matrix
  pub lanes_with_all : (m : Compressed T) → IsSound m
      → lanes_with m.pattern 0 (m.pattern.major_dim - 0) m.values ≡ lanes_of m
  lanes_with_all m sound =
      let whole : m.pattern.major_dim - 0 ≡ m.pattern.major_dim = omega arith in
      ap (λ n. lanes_with m.pattern 0 n m.values) whole
      ∙ ap (λ k. lanes_with m.pattern 0 m.pattern.major_dim (drop k m.values))
      (sym sound.valid.first)
      ∙ cut_lanes m sound m.pattern.major_dim 0 (omega arith)
