-- Sums of plain matrices, which are added one after the other.
use Rattle.std.proofs.Common.{◌≡◌, ℕ, ◌+◌, ◌<◌, Bool}
use Rattle.std.proofs.Common.{List, [], ◌∷◌, ◌++◌, length, take}
use Rattle.std.proofs.Common.{get_or, ap, sym, ◌∙◌}
use Rattle.std.specs.Prelude.{◌||◌}
use Rattle.std.specs.List.{list_any}
use Rattle.std.proofs.Math.Bool.{or-false}
use Rattle.std.proofs.lemmas.List.{take_more}
use Rattle.std.proofs.lemmas.List.Folds.{list_any-append}
use Rattle.nalgebra_sparse.specs.Algebra.{CommRing}
use Rattle.nalgebra_sparse.specs.Coo.{Coo, appended}
use Rattle.nalgebra_sparse.specs.CooPlain.{plain_of_coo}
use Rattle.nalgebra_sparse.specs.Plain.{Plain, is_at, plain_of_triplets}
use Rattle.nalgebra_sparse.specs.SumLemmas.{sum_by-append}
use Rattle.nalgebra_sparse.specs.Sums.{sum_by, where_true}
use Rattle.examples_theorems.specs.Assembly.{plain_total}

module _ (R : CommRing) where
  sum_by-push : {X : Type 0} (g : X → R.Carrier) (xs : List X) (x : X)
      → sum_by R g (xs ++ x ∷ []) ≡ R.add (sum_by R g xs) (g x)
  sum_by-push g xs x = sum_by-append R g xs (x ∷ [])
      ∙ ap (R.add (sum_by R g xs)) (R.laws.add_zero (g x))

  list_any-push : {X : Type 0} (t : X → Bool) (xs : List X) (x : X)
      → list_any t (xs ++ x ∷ []) ≡ (list_any t xs || t x)
  list_any-push t xs x = list_any-append t xs (x ∷ [])
      ∙ ap (λ b. list_any t xs || b) (or-false (t x))

  module _ {T X : Type 0} (f : T → R.Carrier) (nrows ncols : ℕ) (g : X → Plain R) (m : Coo T)
      (xs : List X) (x : X) (ts : List (ℕ × ℕ × T)) where
    more_appended : plain_of_triplets R f nrows ncols ts ≡ g x
        → plain_of_coo R f m ≡ plain_total R nrows ncols g xs
        → plain_of_coo R f (appended m ts) ≡ plain_total R nrows ncols g (xs ++ x ∷ [])
    more_appended one same = λ k. record {
      rows = (same k).rows;
      cols = (same k).cols;
      has = λ i j. has_more i j k;
      value = λ i j. value_more i j k;
    }
      where
        has_more : (i j : ℕ) → list_any (is_at i j) (m.triplets ++ ts)
            ≡ list_any (λ x. (g x).has i j) (xs ++ x ∷ [])
        has_more i j =
            let has : X → Bool = λ x. (g x).has i j in
            list_any-append (is_at i j) m.triplets ts
            ∙ ap (λ b. b || list_any (is_at i j) ts) (ap (λ a. a.has i j) same)
            ∙ ap (λ b. list_any has xs || b) (ap (λ a. a.has i j) one)
            ∙ sym (list_any-push has xs x)

        value_more : (i j : ℕ)
            → sum_by R (λ t. where_true R (is_at i j t) (f t.2)) (m.triplets ++ ts)
            ≡ sum_by R (λ x. (g x).value i j) (xs ++ x ∷ [])
        value_more i j =
            let u : ℕ × ℕ × T → R.Carrier = λ t. where_true R (is_at i j t) (f t.2) in
            let value : X → R.Carrier = λ x. (g x).value i j in
            sum_by-append R u m.triplets ts
            ∙ ap (λ c. R.add c (sum_by R u ts)) (ap (λ a. a.value i j) same)
            ∙ ap (R.add (sum_by R value xs)) (ap (λ a. a.value i j) one)
            ∙ sym (sum_by-push value xs x)

  -- the plain matrix of a list of triplets of this shape is the sum of these matrices
  pub record IsTotal {T X : Type 0} (f : T → R.Carrier) (nrows ncols : ℕ) (g : X → Plain R)
      (m : Coo T) (xs : List X) : Type 0 where
    pub rows : m.nrows ≡ nrows
    pub cols : m.ncols ≡ ncols
    pub plain : plain_of_coo R f m ≡ plain_total R nrows ncols g xs

  -- appending the triplets of a matrix adds that matrix to the sum
  pub total_appended : {T X : Type 0} (f : T → R.Carrier) (nrows ncols : ℕ) (g : X → Plain R)
      (m next : Coo T) (xs : List X) (n : ℕ) (x : X) (ts : List (ℕ × ℕ × T))
      → next ≡ appended m ts → n < length xs → x ≡ get_or xs n x
      → plain_of_triplets R f nrows ncols ts ≡ g x
      → IsTotal f nrows ncols g m (take n xs) → IsTotal f nrows ncols g next (take (n + 1) xs)
  total_appended f nrows ncols g m next xs n x ts added lt is one total = record {
    rows = ap (λ l. l.nrows) added ∙ total.rows;
    cols = ap (λ l. l.ncols) added ∙ total.cols;
    plain = ap (plain_of_coo R f) added
        ∙ more_appended f nrows ncols g m (take n xs) x ts one total.plain
        ∙ ap (λ y. plain_total R nrows ncols g (take n xs ++ y ∷ [])) is
        ∙ ap (plain_total R nrows ncols g) (sym (take_more xs n x lt));
  }
