-- What adding the terms of a row changes, one part after another: the accumulators, and the columns
-- that are noted.
use Rattle.std.proofs.Common.{◌≡◌, ◌≢◌, ℕ, ◌↔◌, ◌⊎◌, inl, inr, List, length, get_or, set}
use Rattle.std.proofs.Common.{ap, sym, subst, ◌∙◌, refl, arith}
use Rattle.std.specs.Prelude.{nat_eq}
use Rattle.std.proofs.lemmas.Bool.{cases_eq}
use Rattle.std.proofs.lemmas.List.{get_or-set_same, get_or-set_other}
use Rattle.sparse_algebra.proofs.Cases.{nat_eq_no}
use Rattle.sparse_algebra.specs.Algebra.{CommRing}
use Rattle.sparse_algebra.specs.Sums.{where_true}
use Rattle.sparse_algebra.proofs.RingLemmas.{mul_zero}
use Rattle.sparse_algebra.proofs.SumLemmas.{where_yes, where_no}
use Rattle.sparse_compressed.proofs.AddedLanes.{eq_refl}
use Rattle.sparse_sums.proofs.Merging.{more}
use Rattle.sparse_products.specs.InnerAccumulators.{AreAdded, AreNoted}

module _ {R : CommRing} {T : Type 0} {f : T → R.Carrier} {z : T} {sum_at : ℕ → ℕ → Type 0}
    {scale : R.Carrier} where
  pub added_none : {old : List T} → AreAdded R f z sum_at scale (λ j. R.zero) old old
  added_none {old} = record {
    added = λ j p at lt.
        let c = f (get_or old p z) in
        sym (ap (R.add c) (mul_zero R scale) ∙ R.laws.add_zero c);
    others = λ p none. refl;
  }

  -- adding x and then x' adds their sum
  pub added_then : {sum_at' : ℕ → ℕ → Type 0} {scale' : R.Carrier} {x x' sum : ℕ → R.Carrier}
      {start now new : List T} → AreAdded R f z sum_at scale x start now
      → AreAdded R f z sum_at' scale' x' now new → length now ≡ length start
      → ((j p : ℕ) → sum_at' j p ↔ sum_at j p)
      → ((j : ℕ) → R.mul scale (sum j) ≡ R.add (R.mul scale (x j)) (R.mul scale' (x' j)))
      → AreAdded R f z sum_at scale sum start new
  added_then {scale' = scale'} {x} {x'} {start = start} before after long same more = record {
    added = λ j p at lt.
        let c = f (get_or start p z) in
        after.added j p ((same j p).1 at) (omega (arith, lt, long))
        ∙ ap (λ y. R.add y (R.mul scale' (x' j))) (before.added j p at lt)
        ∙ R.laws.add_assoc c (R.mul scale (x j)) (R.mul scale' (x' j))
        ∙ ap (R.add c) (sym (more j));
    others = λ p none. after.others p (λ j at. none j ((same j p).0 at)) ∙ before.others p none;
  }

  pub added_same : {x y : ℕ → R.Carrier} {old new : List T} → ((j : ℕ) → x j ≡ y j)
      → AreAdded R f z sum_at scale x old new → AreAdded R f z sum_at scale y old new
  added_same {old = old} same was = record {
    added = λ j p at lt. was.added j p at lt
        ∙ ap (λ c. R.add (f (get_or old p z)) (R.mul scale c)) (same j);
    others = was.others;
  }

  -- adding the term of one entry to the accumulator of its column
  pub entry_added : ((j p q : ℕ) → sum_at j p → sum_at j q → p ≡ q)
      → ((i j p : ℕ) → sum_at i p → sum_at j p → i ≡ j) → (old : List T) (k q : ℕ) (v w : T)
      → sum_at k q → f w ≡ R.add (f (get_or old q z)) (R.mul scale (f v))
      → AreAdded R f z sum_at scale (λ j. where_true R (nat_eq k j) (f v)) old (set old q w)
  entry_added one_sum one_column old k q v w here is = record {
    added = λ j p at lt.
        let c = f (get_or old p z) in
        elim (cases_eq p q) [
          | inl same ↦
              let index : k ≡ j = one_column k j q here (subst (λ p. sum_at j p) same at) in
              let hit : where_true R (nat_eq k j) (f v) ≡ f v = where_yes R (nat_eq k j)
              (f v) (rw index (eq_refl j)) in
              ap (λ p. f (get_or (set old q w) p z)) same
              ∙ ap f (get_or-set_same old q w z (omega (arith, lt, same))) ∙ is
              ∙ ap (λ p. R.add (f (get_or old p z)) (R.mul scale (f v))) (sym same)
              ∙ ap (λ x. R.add c (R.mul scale x)) (sym hit)
          | inr differs ↦
              let other : k ≢ j =
              λ e. differs (one_sum j p q at (subst (λ i. sum_at i q) e here)) in
              let miss : where_true R (nat_eq k j) (f v) ≡ R.zero = where_no R (nat_eq k j)
              (f v) (nat_eq_no k j other) in
              ap f (get_or-set_other old q p w z differs)
              ∙ sym (ap (λ x. R.add c (R.mul scale x)) miss ∙ ap (R.add c) (mul_zero R scale)
              ∙ R.laws.add_zero c)
        ];
    others = λ p none. get_or-set_other old q p w z
        (λ e. none k (subst (λ p. sum_at k p) (sym e) here));
  }

pub noted_none : {sum_at : ℕ → ℕ → Type 0} {before P : ℕ → Type 0} → ((j : ℕ) → P j → ⊥)
    → AreNoted sum_at sum_at before before P
noted_none none = record {
  kept = λ j p. (λ h. h, λ h. h);
  noted = λ j. (λ h. inl h, λ h. elim h [ inl was ↦ was | inr p ↦ absurd (none j p) ]);
}

pub noted_then : {sum_at sum_at' sum_at'' : ℕ → ℕ → Type 0} {before mid after P Q S : ℕ → Type 0}
    → AreNoted sum_at sum_at' before mid P → AreNoted sum_at' sum_at'' mid after Q
    → ((j : ℕ) → S j ↔ (P j ⊎ Q j)) → AreNoted sum_at sum_at'' before after S
noted_then first second both = record {
  kept = λ j p. grind (arith, first.kept j p, second.kept j p);
  noted = λ j. grind (arith, first.noted j, second.noted j, both j);
}

pub noted_same : {sum_at sum_at' : ℕ → ℕ → Type 0} {before after P Q : ℕ → Type 0}
    → ((j : ℕ) → P j ↔ Q j) → AreNoted sum_at sum_at' before after P
    → AreNoted sum_at sum_at' before after Q
noted_same same was = record {
  kept = was.kept;
  noted = λ j. grind (arith, was.noted j, same j);
}
