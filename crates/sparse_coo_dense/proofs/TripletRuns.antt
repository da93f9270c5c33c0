-- Splitting a list of triplets into lists of rows, columns and values.
use Rattle.std.proofs.Common.{◌≡◌, ℕ, zero, suc, ◌<◌, ◌≤◌, ◌⊎◌, inl, inr, List, [], ◌∷◌, length}
use Rattle.std.proofs.Common.{get_or, map, Any, Result, Ok, Err, IfOk, OnOk, refl, ap, sym, subst}
use Rattle.std.proofs.Common.{◌∙◌, arith}
use Rattle.std.proofs.lemmas.List.{length-map}
use Rattle.sparse_coo_dense.specs.Coo.{Coo, zip_triplets, IsInside, AreParts, coo_of}
use Rattle.sparse_coo_dense.specs.TripletFaults.{IsFirstTripletFault, IsSomeOutside}
use Rattle.sparse_coo_dense.specs.TripletFaults.{HasTripletFault}
use Rattle.sparse_coo_dense.specs.TripletFaults.{TripletRule, ColCount, ValueCount}
use Rattle.sparse_coo_dense.specs.TripletFaults.{RowBounds, ColBounds}
use Rattle.sparse_coo_dense.specs.TripletFaults.{triplet_kind}
use Rattle.sparse_pattern.specs.declared.error.SparseFormatErrorKind.{SparseFormatErrorKind}
use Rattle.sparse_pattern.specs.declared.error.SparseFormatErrorKind.TheVariants.{IndexOutOfBounds}
use Rattle.sparse_coo_dense.proofs.TripletLists.{bounded}

any_of_map : {A : Type 0} (f : A → ℕ) (P : ℕ → Type 0) (Q : A → Type 0) → ((x : A) → P (f x) → Q x)
    → (xs : List A) (k i : ℕ) → k < length (map f xs) → get_or (map f xs) k i ≡ i → P i → Any Q xs
any_of_map f P Q from [] k i lt at p = absurd (omega arith)
any_of_map f P Q from (x ∷ xs) zero i lt at p =
    (zero, x, omega arith, refl, from x (subst P (sym at) p))
any_of_map f P Q from (x ∷ xs) (suc k) i lt at p =
    let rest = any_of_map f P Q from xs k i (omega arith) at p in
    (suc rest.0, rest.1, omega (arith, rest.2), rest.3, rest.4)

module _ {T : Type 0} where
  pub zip-split : (rows cols : List ℕ) (values : List T) (ts : List (ℕ × ℕ × T))
      → rows ≡ map (λ t. t.0) ts → cols ≡ map (λ t. t.1) ts → values ≡ map (λ t. t.2) ts
      → zip_triplets rows cols values ≡ ts
  zip-split rows cols values ts er ec ev = rw (er, ec, ev) (whole ts)
    where
      whole : (ts : List (ℕ × ℕ × T))
          → zip_triplets (map (λ t. t.0) ts) (map (λ t. t.1) ts) (map (λ t. t.2) ts) ≡ ts
      whole [] = refl
      whole (t ∷ ts) = ap (λ rest. t ∷ rest) (whole ts)

  fault_at : (nrows ncols : ℕ) (ts : List (ℕ × ℕ × T)) (kind : SparseFormatErrorKind)
      (s : TripletRule)
      → HasTripletFault nrows ncols (map (λ t. t.0) ts) (map (λ t. t.1) ts)
      (length (map (λ t. t.2) ts)) s → kind ≡ triplet_kind s → (kind ≡ IndexOutOfBounds)
      × IsSomeOutside nrows ncols ts
  fault_at nrows ncols ts kind ColCount h is =
      absurd (h (length-map ts (λ t. t.0) ∙ sym (length-map ts (λ t. t.1))))
  fault_at nrows ncols ts kind ValueCount h is =
      absurd (h (length-map ts (λ t. t.1) ∙ sym (length-map ts (λ t. t.2))))
  fault_at nrows ncols ts kind RowBounds h is = (
    is,
    any_of_map (λ t. t.0) (λ i. nrows ≤ i) (λ t. (nrows ≤ t.0) ⊎ (ncols ≤ t.1))
        (λ t out. inl out) ts h.0 h.1 h.2 h.3 h.4,
  )
  fault_at nrows ncols ts kind ColBounds h is = (
    is,
    any_of_map (λ t. t.1) (λ j. ncols ≤ j) (λ t. (nrows ≤ t.0) ⊎ (ncols ≤ t.1))
        (λ t out. inr out) ts h.0 h.1 h.2 h.3 h.4,
  )

  -- if the lists of split triplets have a fault, some triplet is outside the shape
  pub fault_outside : (nrows ncols : ℕ) (rows cols : List ℕ) (values : List T)
      (ts : List (ℕ × ℕ × T)) (kind : SparseFormatErrorKind)
      → rows ≡ map (λ t. t.0) ts → cols ≡ map (λ t. t.1) ts → values ≡ map (λ t. t.2) ts
      → IsFirstTripletFault nrows ncols rows cols (length values) kind → (kind ≡ IndexOutOfBounds)
      × IsSomeOutside nrows ncols ts
  fault_outside nrows ncols rows cols values ts kind er ec ev fault =
      let here = rw (er, ec, ev) at fault.first.here in
      fault_at nrows ncols ts kind fault.rule here fault.is

  pub inside_at_ok : {E : Type 0} (nrows ncols : ℕ) (rows cols : List ℕ) (values : List T)
      (r : Result (Coo T) E)
      → IfOk r (λ m. m ≡ coo_of nrows ncols (zip_triplets rows cols values))
      → OnOk r (AreParts nrows ncols rows cols values) → IfOk r IsInside
  inside_at_ok nrows ncols rows cols values (Ok m) same parts =
      rw same (bounded nrows ncols rows cols values parts)
  inside_at_ok nrows ncols rows cols values (Err e) same parts = tt
