-- Flags of nested columns, one column after the other.
use Rattle.std.proofs.Common.{◌≡◌, ℕ, inl, inr, Bool, true, false, List, [], ◌∷◌, ◌++◌}
use Rattle.std.proofs.Common.{length, get_or, sym, subst, ◌∙◌, arith, length-append}
use Rattle.std.proofs.lemmas.List.{get_or_append_left, get_or_at, get_or_past}
use Rattle.sparse_algebra.proofs.Cases.{three}
use Rattle.sparse_pattern.specs.Raw.{Raw}
use Rattle.sparse_factor.specs.InnerNested.{IsNested}

-- the flag of the next column is appended
pub flags_more : (p : Raw) (flags : List Bool) (flag : Bool) (k : ℕ) → length flags ≡ k
    → ((i : ℕ) → get_or flags i false ≡ true → IsNested p i) → (flag ≡ true → IsNested p k)
    → (i : ℕ) → get_or (flags ++ flag ∷ []) i false ≡ true → IsNested p i
flags_more p flags flag k count each one i is = elim (three i k) [
  | inl less ↦ each i (sym (get_or_append_left flags (flag ∷ []) false i
      (omega (arith, less, count))) ∙ is)
  | inr (inl more) ↦
      let past = get_or_past (flags ++ flag ∷ []) i false
      (omega (arith, more, count, length-append flags (flag ∷ []))) in
      let none : false ≡ true = sym past ∙ is in
      cc
  | inr (inr same) ↦ subst (IsNested p) (sym same) (one (sym (get_or_at flags flag [] false k count)
      ∙ subst (λ i. get_or (flags ++ flag ∷ []) i false ≡ true) same is))
]
