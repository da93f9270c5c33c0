-- `list_any`, `sum_by` and `filter` of lists that are mapped, filtered or flattened.
use Rattle.std.proofs.Common.{◌≡◌, Bool, true, false, ◌&&◌, cond, List, [], ◌∷◌, map, refl, ap, sym}
use Rattle.std.proofs.Common.{◌∙◌}
use Rattle.std.specs.Prelude.{◌||◌}
use Rattle.std.specs.List.{filter, flat_map, list_any}
use Rattle.std.proofs.lemmas.List.Folds.{list_any-append}
use Rattle.sparse_algebra.specs.Algebra.{CommRing}
use Rattle.sparse_algebra.specs.Sums.{sum_by, where_true}
use Rattle.sparse_algebra.proofs.RingLemmas.{zero_add}
use Rattle.sparse_algebra.proofs.SumLemmas.{sum_by-append, sum_by-zero}

pub any-same : {X : Type 0} (p q : X → Bool) → ((x : X) → p x ≡ q x) → (xs : List X)
    → list_any p xs ≡ list_any q xs
any-same p q h xs = λ k. list_any (λ x. h x k) xs

pub any-map : {X Y : Type 0} (p : Y → Bool) (f : X → Y) (xs : List X)
    → list_any p (map f xs) ≡ list_any (λ x. p (f x)) xs
any-map p f [] = refl
any-map p f (x ∷ xs) = ap (λ b. p (f x) || b) (any-map p f xs)

pub any-filter : {X : Type 0} (p q : X → Bool) (xs : List X)
    → list_any p (filter q xs) ≡ list_any (λ x. q x && p x) xs
any-filter p q [] = refl
any-filter p q (x ∷ xs) = kept (q x) (any-filter p q xs)
  where
    kept : (c : Bool) → list_any p (filter q xs) ≡ list_any (λ x. q x && p x) xs
        → list_any p (cond c (x ∷ filter q xs) (filter q xs))
        ≡ ((c && p x) || list_any (λ x. q x && p x) xs)
    kept true rest = ap (λ b. p x || b) rest
    kept false rest = rest

pub any-flat_map : {X Y : Type 0} (p : Y → Bool) (f : X → List Y) (xs : List X)
    → list_any p (flat_map f xs) ≡ list_any (λ x. list_any p (f x)) xs
any-flat_map p f [] = refl
any-flat_map p f (x ∷ xs) = list_any-append p (f x) (flat_map f xs)
    ∙ ap (λ b. list_any p (f x) || b) (any-flat_map p f xs)

pub filter-map : {X Y : Type 0} (test : Y → Bool) (f : X → Y) (xs : List X)
    → filter test (map f xs) ≡ map f (filter (λ x. test (f x)) xs)
filter-map test f [] = refl
filter-map test f (x ∷ xs) = chosen (test (f x)) (filter-map test f xs)
  where
    chosen : (b : Bool) → filter test (map f xs) ≡ map f (filter (λ x. test (f x)) xs)
        → cond b (f x ∷ filter test (map f xs)) (filter test (map f xs)) ≡ map f
        (cond b (x ∷ filter (λ x. test (f x)) xs) (filter (λ x. test (f x)) xs))
    chosen true rest = ap (λ l. f x ∷ l) rest
    chosen false rest = rest

module _ (R : CommRing) where
  pub sum_by-map : {X Y : Type 0} (g : Y → R.Carrier) (f : X → Y) (xs : List X)
      → sum_by R g (map f xs) ≡ sum_by R (λ x. g (f x)) xs
  sum_by-map g f [] = refl
  sum_by-map g f (x ∷ xs) = ap (R.add (g (f x))) (sum_by-map g f xs)

  pub sum_by-filter : {X : Type 0} (g : X → R.Carrier) (q : X → Bool) (xs : List X)
      → sum_by R g (filter q xs) ≡ sum_by R (λ x. where_true R (q x) (g x)) xs
  sum_by-filter g q [] = refl
  sum_by-filter g q (x ∷ xs) = kept (q x) (sum_by-filter g q xs)
    where
      kept : (c : Bool)
          → sum_by R g (filter q xs) ≡ sum_by R (λ x. where_true R (q x) (g x)) xs
          → sum_by R g (cond c (x ∷ filter q xs) (filter q xs))
          ≡ R.add (where_true R c (g x)) (sum_by R (λ x. where_true R (q x) (g x)) xs)
      kept true rest = ap (R.add (g x)) rest
      kept false rest = rest ∙ sym (zero_add R _)

  pub sum_by-flat_map : {X Y : Type 0} (g : Y → R.Carrier) (f : X → List Y) (xs : List X)
      → sum_by R g (flat_map f xs) ≡ sum_by R (λ x. sum_by R g (f x)) xs
  sum_by-flat_map g f [] = refl
  sum_by-flat_map g f (x ∷ xs) = sum_by-append R g (f x) (flat_map f xs)
      ∙ ap (R.add (sum_by R g (f x))) (sum_by-flat_map g f xs)

  pub where_and : (b c : Bool) (x : R.Carrier)
      → where_true R (b && c) x ≡ where_true R b (where_true R c x)
  where_and true c x = refl
  where_and false c x = refl

  pub sum_where : {X : Type 0} (b : Bool) (g : X → R.Carrier) (xs : List X)
      → sum_by R (λ x. where_true R b (g x)) xs ≡ where_true R b (sum_by R g xs)
  sum_where true g xs = refl
  sum_where false g xs = sum_by-zero R xs
