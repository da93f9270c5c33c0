-- The counts of a histogram of lanes add up to the number of lanes.
use Rattle.std.proofs.Common.{◌≡◌, ℕ, zero, suc, ◌+◌, ◌*◌, ◌/◌, ◌<◌, ◌≤◌, ◌&&◌, Bool, true, false}
use Rattle.std.proofs.Common.{nat_le, nat_lt, inl, inr, refl, arith}
use Rattle.std.proofs.Common.{List, [], ◌∷◌, ◌++◌, length, slice_index, sum, sym, ap, ◌∙◌}
use Rattle.std.specs.Prelude.{if◌then◌else◌}
use Rattle.std.proofs.lemmas.Bool.{cases_lt, le-leb, lt-leb, lt-ltb, le-ltb}
use Rattle.std.proofs.lemmas.List.{get_or_push, get_or_append_left}
use Rattle.std.proofs.lemmas.List.Sums.{sum_by_push}
use Rattle.std.proofs.Math.Nat.{lt-mul-div-succ}
use Rattle.sparse_pattern.specs.Raw.{Raw}
use Rattle.mtxkit_matrices.specs.Lanes.{count_below, has_size_in, size_of}

-- 1 if the size is in the range, and otherwise 0
abbrev one : ℕ → ℕ → ℕ → ℕ
one from to size = if nat_le from size && nat_lt size to then 1 else 0

one_in : (from to size : ℕ) → from ≤ size → size < to → one from to size ≡ 1
one_in from to size low high = rw (le-leb from size low, lt-ltb size to high) refl

one_low : (from to size : ℕ) → size < from → one from to size ≡ 0
one_low from to size low = rw (lt-leb from size low) refl

high_by : (from to size : ℕ) (low : Bool) → nat_le from size ≡ low → nat_lt size to ≡ false
    → one from to size ≡ 0
high_by from to size true is high = rw (is, high) refl
high_by from to size false is high = rw is refl

one_high : (from to size : ℕ) → to ≤ size → one from to size ≡ 0
one_high from to size high = high_by from to size (nat_le from size) refl (le-ltb size to high)

sum_of : (a b c x y z : ℕ) → a ≡ x → b ≡ y → c ≡ z → x + y ≡ z → a + b ≡ c
sum_of a b c x y z d e f sum = omega (arith, d, e, f, sum)

one_split : (from mid to size : ℕ) → from ≤ mid → mid ≤ to
    → one from mid size + one mid to size ≡ one from to size
one_split from mid to size low high = elim (cases_lt size from) [
  | inl lt ↦ sum_of _ _ _ 0 0 0 (one_low from mid size lt)
      (one_low mid to size (omega (arith, lt, low))) (one_low from to size lt) refl
  | inr le ↦ elim (cases_lt size mid) [
    | inl lt ↦ sum_of _ _ _ 1 0 1 (one_in from mid size le lt) (one_low mid to size lt)
        (one_in from to size le (omega (arith, lt, high))) refl
    | inr ge ↦ elim (cases_lt size to) [
      | inl lt ↦ sum_of _ _ _ 0 1 1 (one_high from mid size ge) (one_in mid to size ge lt)
          (one_in from to size le lt) refl
      | inr out ↦ sum_of _ _ _ 0 0 0 (one_high from mid size ge) (one_high mid to size out)
          (one_high from to size out) refl
    ]
  ]
]

both_sums : (d e f a b c : ℕ) → d + e ≡ f → a + b ≡ c → (d + a) + (e + b) ≡ f + c
both_sums d e f a b c s t = omega (arith, s, t)

one_more : (a b n : ℕ) → a ≡ n → b ≡ 1 → a + b ≡ suc n
one_more a b n e f = omega (arith, e, f)

sum_is : (a b c d : ℕ) → a ≡ c → b ≡ d → a + b ≡ c + d
sum_is a b c d e f = omega (arith, e, f)

-- the first k + 1 elements after a push
pub each_push : (xs : List ℕ) (x k : ℕ) (f : ℕ → ℕ) → length xs ≡ k
    → ((b : ℕ) → b < k → slice_index xs b ≡ f b) → x ≡ f k
    → (b : ℕ) → b < k + 1 → slice_index (xs ++ x ∷ []) b ≡ f b
each_push xs x k f size each is b lt = elim (cases_lt b k) [
  | inl below ↦ get_or_append_left xs (x ∷ []) 0 b (omega (arith, below, size)) ∙ each b below
  | inr at ↦
      let here : b ≡ k = omega (arith, lt, at) in
      get_or_push xs x 0 b (omega (arith, here, size)) ∙ is ∙ ap f (sym here)
]

pub total_push : (xs : List ℕ) (x a b c : ℕ) → sum xs ≡ a → x ≡ b → a + b ≡ c
    → sum (xs ++ x ∷ []) ≡ c
total_push xs x a b c total is more = sum_by_push (λ n. n) xs x ∙ sum_is _ _ a b total is ∙ more

module _ (p : Raw) where
  pub counts_split : (n from mid to : ℕ) → from ≤ mid → mid ≤ to
      → count_below n (has_size_in p from mid) + count_below n (has_size_in p mid to)
      ≡ count_below n (has_size_in p from to)
  counts_split zero from mid to low high = refl
  counts_split (suc n) from mid to low high =
      both_sums _ _ _ _ _ _ (counts_split n from mid to low high)
      (one_split from mid to (size_of p n) low high)

  pub counts_none : (n : ℕ) → count_below n (has_size_in p 0 0) ≡ 0
  counts_none zero = refl
  counts_none (suc n) = sum_is _ _ 0 0 (counts_none n) (one_high 0 0 (size_of p n) (omega arith))

  pub counts_all : (n to : ℕ) → ((k : ℕ) → k < n → size_of p k < to)
      → count_below n (has_size_in p 0 to) ≡ n
  counts_all zero to small = refl
  counts_all (suc n) to small =
      one_more _ _ n (counts_all n to (λ k lt. small k (omega (arith, lt))))
      (one_in 0 to (size_of p n) (omega arith) (small n (omega arith)))

  -- the ten lines of a histogram cover each lane
  pub lines_all : (n longest : ℕ) → ((k : ℕ) → k < n → size_of p k ≤ longest)
      → count_below n (has_size_in p 0 (10 * (longest / 10 + 1))) ≡ n
  lines_all n longest bound = counts_all n (10 * (longest / 10 + 1))
      (λ k lt. omega (arith, bound k lt, lt-mul-div-succ longest {b = 10} (omega arith)))
