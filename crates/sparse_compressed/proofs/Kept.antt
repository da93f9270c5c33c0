-- The elements of a list that a predicate keeps (`IsKept`).
use Rattle.std.proofs.Common.{◌≡◌, ℕ, suc, ◌+◌, ◌<◌, Bool, true, false, cond, List, [], ◌∷◌, ◌++◌}
use Rattle.std.proofs.Common.{length, All, take, map, get_or, refl, ap, sym, subst, ◌∙◌, arith}
use Rattle.std.proofs.Common.{length-append}
use Rattle.std.specs.List.{zip, filter, AllPairs}
use Rattle.std.proofs.lemmas.List.{append-nil, append_assoc}
use Rattle.std.proofs.lemmas.List.Elements.{All-cons, All-head, All-tail}
use Rattle.std.proofs.lemmas.List.Kept.{AllPairs-cons}
use denote.Ref.{Bor}
use Rattle.std.specs.Fn.{Shared}
use Rattle.sparse_compressed.specs.Filter.{IsKept, Answers}
use Rattle.sparse_compressed.specs.InnerFilter.{IsGrown}
use Rattle.sparse_compressed.proofs.LaneSortingLemmas.{zip-push, pairs_more}

module _ {X : Type 0} (R : X → Bool → Type 0) where
  cond-append : (b : Bool) (x : X) (ys zs : List X)
      → cond b (x ∷ ys) ys ++ zs ≡ cond b (x ∷ (ys ++ zs)) (ys ++ zs)
  cond-append true x ys zs = refl
  cond-append false x ys zs = refl

  -- the kept elements of an appended list
  pub IsKept-append : (xs us ys vs : List X) → IsKept R xs ys → IsKept R us vs
      → IsKept R (xs ++ us) (ys ++ vs)
  IsKept-append [] us ys vs h k = subst (λ zs. IsKept R us (zs ++ vs)) (sym h) k
  IsKept-append (x ∷ xs) us ys vs h k = (
    h.0,
    h.1,
    h.2 ++ vs,
    IsKept-append xs us h.2 vs h.3 k,
    ap (λ zs. zs ++ vs) h.4
        ∙ cond-append h.0 x h.2 vs,
  )

  -- one more element is kept or not
  pub IsKept-push : (xs ys : List X) (x : X) (b : Bool) → IsKept R xs ys → R x b
      → IsKept R (xs ++ x ∷ []) (ys ++ cond b (x ∷ []) [])
  IsKept-push xs ys x b h r = IsKept-append xs (x ∷ []) ys _ h (b, r, [], refl, refl)

  -- if the results are those of a test, the kept elements are those of `filter`
  module _ (test : X → Bool) (says : (x : X) (b : Bool) → R x b → b ≡ test x) where
    pub filter_from_kept : (xs ys : List X) → IsKept R xs ys → ys ≡ filter test xs
    filter_from_kept [] ys h = h
    filter_from_kept (x ∷ xs) ys h =
        h.4 ∙ ap (λ zs. cond h.0 (x ∷ zs) zs) (filter_from_kept xs h.2 h.3)
        ∙ ap (λ b. cond b (x ∷ filter test xs) (filter test xs)) (says x h.0 h.1)

-- the kept elements of a mapped list
pub IsKept-map : {X Y : Type 0} (R : X → Bool → Type 0) (S : Y → Bool → Type 0) (f : X → Y)
    → ((x : X) (b : Bool) → R x b → S (f x) b) → (xs ys : List X) → IsKept R xs ys
    → IsKept S (map f xs) (map f ys)
IsKept-map R S f says [] ys h = ap (map f) h
IsKept-map R S f says (x ∷ xs) ys h = (
  h.0,
  says x h.0 h.1,
  map f h.2,
  IsKept-map R S f says xs h.2 h.3,
  ap (map f) h.4 ∙ chosen h.0,
)
  where
    chosen : (b : Bool) → map f (cond b (x ∷ h.2) h.2) ≡ cond b (f x ∷ map f h.2) (map f h.2)
    chosen true = refl
    chosen false = refl

-- what holds of all elements, or of all pairs of elements in order, holds of the kept ones
module _ {X : Type 0} (R : X → Bool → Type 0) (P : X → Type 0) where
  pub All-kept : (xs ys : List X) → IsKept R xs ys → All P xs → All P ys
  All-kept [] ys h all = subst (All P) (sym h) all
  All-kept (x ∷ xs) ys h all = subst (All P) (sym h.4)
      (chosen h.0 (All-kept xs h.2 h.3 (All-tail P x xs all)))
    where
      chosen : (b : Bool) → All P h.2 → All P (cond b (x ∷ h.2) h.2)
      chosen true rest = All-cons P x h.2 (All-head P x xs all) rest
      chosen false rest = rest

module _ {X : Type 0} (R : X → Bool → Type 0) (S : X → X → Type 0) where
  pub AllPairs-kept : (xs ys : List X) → IsKept R xs ys → AllPairs S xs → AllPairs S ys
  AllPairs-kept [] ys h all = subst (AllPairs S) (sym h) all
  AllPairs-kept (x ∷ xs) ys h all = subst (AllPairs S) (sym h.4)
      (chosen h.0 (AllPairs-kept xs h.2 h.3 (λ i j d lt within. all (suc i) (suc j) d (omega arith)
      (omega arith))))
    where
      chosen : (b : Bool) → AllPairs S h.2 → AllPairs S (cond b (x ∷ h.2) h.2)
      chosen true rest = AllPairs-cons S x h.2
          (All-kept R (S x) xs h.2 h.3 (λ k d lt. all 0 (suc k) d (omega arith) (omega arith))) rest
      chosen false rest = rest

module _ {T : Type 0} (R : ℕ × T → Bool → Type 0) where
  -- one more pair is kept or not
  module _ (indices : List ℕ) (values : List T) (k : ℕ) {x : ℕ} {v : T}
      (e : length values ≡ length indices) (lt : k < length indices) (is_x : x ≡ get_or indices k 0)
      (is_v : v ≡ get_or values k v) {xs ys : List ℕ} {vs ws : List T}
      (grown : IsGrown R (zip (take k indices) (take k values)) xs vs ys ws) where
    pub keep_more : R (x, v) true
        → IsGrown R (zip (take (k + 1) indices) (take (k + 1) values)) xs vs (ys ++ x ∷ [])
        (ws ++ v ∷ [])
    keep_more answer = record {
      indices = grown.indices ++ x ∷ [];
      values = grown.values ++ v ∷ [];
      index_end = ap (λ l. l ++ x ∷ []) grown.index_end ∙ append_assoc xs grown.indices (x ∷ []);
      value_end = ap (λ l. l ++ v ∷ []) grown.value_end ∙ append_assoc vs grown.values (v ∷ []);
      count = omega (
        arith,
        grown.count,
        length-append grown.values (v ∷ []),
        length-append grown.indices (x ∷ []),
      );
      kept = subst (λ ps. IsKept R ps (zip (grown.indices ++ x ∷ []) (grown.values ++ v ∷ [])))
          (pairs_more indices values k x v e lt is_x is_v)
          (subst (IsKept R (zip (take k indices) (take k values) ++ (x, v) ∷ []))
          (sym (zip-push grown.indices grown.values x v grown.count))
          (IsKept-push R _ _ (x, v) true grown.kept answer));
    }

    pub leave_more : R (x, v) false
        → IsGrown R (zip (take (k + 1) indices) (take (k + 1) values)) xs vs ys ws
    leave_more answer = record {
      indices = grown.indices;
      values = grown.values;
      index_end = grown.index_end;
      value_end = grown.value_end;
      count = grown.count;
      kept = subst (λ ps. IsKept R ps (zip grown.indices grown.values))
          (pairs_more indices values k x v e lt is_x is_v)
          (subst (IsKept R _) (append-nil _) (IsKept-push R _ _ (x, v) false grown.kept answer));
    }

-- a result that a call of the predicate returned is one of its answers
pub answered : {F T : Type 0} (g : Shared F (ℕ × (ℕ × (Bor T × Unit {0}))) Bool) {f : F} {i j : ℕ}
    {y : Bor T} {r b : Bool}
    → g.post f (i, (j, (y, tt))) r → r ≡ b → Answers g f (i, j, y.now) b
answered g {f} {i} {j} {y} h e = record {
  shown = y;
  shows = refl;
  says =
      record { met = subst (λ b. g.post f (i, (j, (y, tt))) b) e h };
}
