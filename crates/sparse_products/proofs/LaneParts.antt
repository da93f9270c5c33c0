-- A list of which a part was written.
use Rattle.std.proofs.Common.{◌≡◌, ℕ, ◌+◌, ◌-◌, ◌<◌, ◌≤◌, ◌⊎◌, inl, inr, List, [], ◌++◌, length}
use Rattle.std.proofs.Common.{take, drop, get_or, ap, ◌∙◌, arith}
use Rattle.std.proofs.lemmas.List.{get_or_append_left, get_or-append_right, get_or-take}
use Rattle.std.proofs.lemmas.List.{get_or-drop, length-take-le, length-drop, take_all}
use Rattle.std.proofs.lemmas.List.{drop_at, get_or_past, get_or-replicate}
use Rattle.std.proofs.lemmas.List.{length-replicate}
use Rattle.std.specs.Prelude.{replicate}
use Rattle.sparse_algebra.proofs.Cases.{lt_or_ge}
use borrow.Rule.Slice.PartMut.{put_mid}

module _ {X : Type 0} (a k : ℕ) (xs ys : List X) (z : X) (inside : a + k ≤ length xs)
    (count : length ys ≡ k) (p : ℕ) where
  front : length (take a xs) ≡ a
  front = length-take-le a xs (omega arith)

  -- an index inside the part reads what was written
  pub in_part : a ≤ p → p < a + k → get_or (put_mid a k xs ys) p z ≡ get_or ys (p - a) z
  in_part from to =
      get_or-append_right (take a xs) (ys ++ drop k (drop a xs)) a p z front from
      ∙ get_or_append_left ys (drop k (drop a xs)) z (p - a) (omega arith)

  -- an index outside the part reads what was there before
  pub off_part : (p < a) ⊎ (a + k ≤ p) → get_or (put_mid a k xs ys) p z ≡ get_or xs p z
  off_part away = elim away [
    | inl below ↦ get_or_append_left (take a xs) (ys ++ drop k (drop a xs)) z p
        (omega (arith, front)) ∙ get_or-take a xs p z below
    | inr past ↦
        let e : a + (k + (p - a - k)) ≡ p = omega arith in
        get_or-append_right (take a xs) (ys ++ drop k (drop a xs)) a p z front (omega arith)
        ∙ get_or-append_right ys (drop k (drop a xs)) k (p - a) z count (omega arith)
        ∙ get_or-drop k (drop a xs) (p - a - k) z ∙ get_or-drop a xs (k + (p - a - k)) z
        ∙ ap (λ q. get_or xs q z) e
  ]

-- the elements of `old ++ lane` from the length of `old` on are `lane`
pub tail_is : {X : Type 0} (xs old lane : List X) (n : ℕ) → length old ≡ n → xs ≡ old ++ lane
    → take (length xs - n) (drop n xs) ≡ lane
tail_is xs old lane n at is = take_all (length xs - n) (drop n xs) (omega (arith, length-drop n xs))
    ∙ ap (λ l. drop n l) is ∙ drop_at old lane n at

-- a list of copies of a value that represents zero represents zero everywhere
pub all_zero : {X Y : Type 0} (f : X → Y) (none : Y) (z v : X) → f z ≡ none → f v ≡ none
    → (xs ys : List X) (m k : ℕ) → xs ≡ [] → ys ≡ take m xs ++ replicate k v → (j : ℕ)
    → f (get_or ys j z) ≡ none
all_zero f none z v zero zero' xs ys m k empty is j =
    let copies : ys ≡ replicate k v = is ∙ ap (λ l. take m l ++ replicate k v) empty
    ∙ ap (λ l. l ++ replicate k v) (take_all m [] (omega arith)) in
    ap (λ l. f (get_or l j z)) copies ∙ elim (lt_or_ge j k) [
      | inl lt ↦ ap f (get_or-replicate k j v z lt) ∙ zero'
      | inr past ↦ ap f (get_or_past (replicate k v) j z (omega (arith, length-replicate k v)))
          ∙ zero
    ]
