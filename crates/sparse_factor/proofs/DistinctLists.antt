-- Lists without repetitions.
use Rattle.std.proofs.Common.{ℕ, ◌-◌, ◌<◌, ◌≤◌, inl, inr, List, ◌++◌, length, get_or, refl, arith}
use Rattle.std.proofs.Common.{length-append}
use Rattle.std.specs.List.{Contains, AllPairs}
use Rattle.std.proofs.lemmas.List.{get_or_append_left, get_or-append_right}
use Rattle.std.proofs.lemmas.List.Elements.{Contains-get_or}
use Rattle.sparse_algebra.proofs.Cases.{lt_or_ge}

module _ {X : Type 0} (R : X → X → Type 0) where
  pub all_pairs_append : (xs ys : List X) → AllPairs R xs → AllPairs R ys
      → ((x y : X) → Contains xs x → Contains ys y → R x y) → AllPairs R (xs ++ ys)
  all_pairs_append xs ys left right cross_pairs i j d lt within =
      let n = length xs in
      let prefix = λ (k : ℕ) (inside : k < n). get_or_append_left xs ys d k inside in
      let back = λ (k : ℕ) (past : n ≤ k). get_or-append_right xs ys n k d refl past in
      let size = length-append xs ys in
      elim (lt_or_ge j n) [
        | inl both ↦ rw (prefix i (omega arith), prefix j both) (left i j d lt both)
        | inr later ↦ elim (lt_or_ge i n) [
          | inl early ↦ rw (prefix i early, back j later)
              (cross_pairs (get_or xs i d) (get_or ys (j - n) d) (Contains-get_or xs i d early)
              (Contains-get_or ys (j - n) d (omega (arith, size))))
          | inr late ↦ rw (back i late, back j later)
              (right (i - n) (j - n) d (omega arith) (omega (arith, size)))
        ]
      ]
