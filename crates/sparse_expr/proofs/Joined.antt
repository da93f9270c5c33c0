-- Two lists of equal length, whose items are related pairwise.
use Rattle.std.proofs.Common.{◌≡◌, ◌<◌, ◌≤◌, ◌+◌, ◌-◌, refl, ℕ, zero, suc, List, [], ◌∷◌, ◌++◌}
use Rattle.std.proofs.Common.{length, get_or, take, arith}
use Rattle.std.specs.List.{AllZip}
use Rattle.std.proofs.lemmas.List.{take_more}
use Rattle.std.proofs.Math.ListN.{set}

module _ {A B : Type 0} (R : A → B → Type 0) where
  AllZip-push : (xs : List A) (ys : List B) (x : A) (y : B) → AllZip R xs ys → R x y
      → AllZip R (xs ++ x ∷ []) (ys ++ y ∷ [])
  AllZip-push [] [] x y all here = (here, tt)
  AllZip-push [] (v ∷ ys) x y all here = absurd all
  AllZip-push (w ∷ xs) [] x y all here = absurd all
  AllZip-push (w ∷ xs) (v ∷ ys) x y all here = (all.0, AllZip-push xs ys x y all.1 here)

  -- one more item in each list
  pub AllZip-more : (xs : List A) (ys zs : List B) (k : ℕ) (x : A) (y : B) → k < length xs
      → AllZip R (take k xs) ys → zs ≡ ys ++ y ∷ [] → R (get_or xs k x) y
      → AllZip R (take (k + 1) xs) zs
  AllZip-more xs ys zs k x y lt all e here =
      rw (take_more xs k x lt, e) (AllZip-push (take k xs) ys (get_or xs k x) y all here)

  pub AllZip-get : (xs : List A) (ys : List B) (k : ℕ) (x : A) (y : B) → k < length xs
      → AllZip R xs ys → R (get_or xs k x) (get_or ys k y)
  AllZip-get [] ys k x y lt all = absurd (omega arith)
  AllZip-get (w ∷ xs) [] k x y lt all = absurd all
  AllZip-get (w ∷ xs) (v ∷ ys) zero x y lt all = all.0
  AllZip-get (w ∷ xs) (v ∷ ys) (suc k) x y lt all = AllZip-get xs ys k x y (omega arith) all.1

  -- an item of the second list is replaced by one related to the item of the first at the same
  -- index
  pub AllZip-set : (xs : List A) (ys : List B) (k : ℕ) (x : A) (y : B) → k < length xs
      → AllZip R xs ys → R (get_or xs k x) y → AllZip R xs (set ys k y)
  AllZip-set [] ys k x y lt all here = absurd (omega arith)
  AllZip-set (w ∷ xs) [] k x y lt all here = absurd all
  AllZip-set (w ∷ xs) (v ∷ ys) zero x y lt all here = (here, all.1)
  AllZip-set (w ∷ xs) (v ∷ ys) (suc k) x y lt all here =
      (all.0, AllZip-set xs ys k x y (omega arith) all.1 here)

  -- or by one that is related to every item to which the replaced one is related
  pub AllZip-change : (xs : List A) (ys : List B) (k : ℕ) (old new : B)
      → ((x : A) → R x (get_or ys k old) → R x new) → AllZip R xs ys → AllZip R xs (set ys k new)
  AllZip-change [] [] k old new same all = tt
  AllZip-change [] (v ∷ ys) k old new same all = absurd all
  AllZip-change (w ∷ xs) [] k old new same all = absurd all
  AllZip-change (w ∷ xs) (v ∷ ys) zero old new same all = (same w all.0, all.1)
  AllZip-change (w ∷ xs) (v ∷ ys) (suc k) old new same all =
      (all.0, AllZip-change xs ys k old new same all.1)

-- a number counted from 1 becomes an index if 1 is subtracted
pub index-below : (n len : ℕ) → (n ≡ 0 → ⊥) → n ≤ len → n - 1 < len
index-below zero len some le = absurd (some refl)
index-below (suc n) len some le = omega (arith, le)
