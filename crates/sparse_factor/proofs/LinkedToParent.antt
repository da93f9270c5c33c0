-- A finished column is put on the list of its parent's children.
use Rattle.std.proofs.Common.{◌≡◌, ◌≢◌, ℕ, suc, ◌+◌, ◌<◌, ◌≤◌, inl, inr, ◌↔◌, List, Contains}
use Rattle.std.proofs.Common.{slice_index, set, refl, sym, ◌∙◌, subst, arith}
use Rattle.std.proofs.lemmas.Bool.{cases_eq}
use Rattle.std.proofs.lemmas.List.{length-set, get_or-set_same, get_or-set_other}
use Rattle.sparse_algebra.proofs.Cases.{lt_add_one_cases}
use Rattle.sparse_factor.specs.Fill.{Filled}
use Rattle.sparse_factor.specs.InnerColumns.{IsFirstBelow}
use Rattle.sparse_factor.specs.InnerChildren.{IsOnList, here, next, AreFalling}
use Rattle.sparse_factor.proofs.FillLaws.{IsParent}
use Rattle.sparse_factor.proofs.Children.{IsOnList-cases, IsOnList-same_links}
use Rattle.sparse_factor.proofs.AppendedColumns.{IsAppended}
use Rattle.sparse_factor.proofs.Merged.{AreMerged}
use Rattle.sparse_factor.proofs.Alternatives.{both_ways}

-- if P is false at k = j, then k < j and P is the same as k < j + 1 and P
not_at : {P : Type 0} (j k : ℕ) → (k ≡ j → P → ⊥) → ((k < j) × P) ↔ ((k < j + 1) × P)
not_at j k fails = (
  λ h. (omega (arith, h.0), h.1),
  λ h. elim (lt_add_one_cases k j h.0) [
    | inl before ↦ (before, h.1)
    | inr e ↦ absurd (fails e h.1)
  ],
)

module _ {base : ℕ → ℕ → Type 0} {n : ℕ} {offsets rows firsts nexts : List ℕ} {j : ℕ}
    {offsets' rows' lane : List ℕ} (are : AreMerged base n offsets rows firsts nexts j) (lt : j < n)
    (column : IsAppended base n j offsets' rows' lane) where
  -- column j has no row below the diagonal
  merged_last : ((i : ℕ) → Contains lane i → i ≤ j)
      → AreMerged base n offsets' rows' firsts nexts (j + 1)
  merged_last none =
      let last = λ (i : ℕ) (f : Filled base i j). none i ((column.holds i).1 f) in
      record {
        low = are.low;
        within = are.within;
        built = column.built;
        first_count = are.first_count;
        next_count = are.next_count;
        falling = are.falling;
        heads = λ p. omega (arith, are.heads p);
        parents = λ k q early below f. elim (lt_add_one_cases k j early) [
          | inl before ↦ are.parents k q before below f
          | inr e ↦ absurd (omega (arith, e, last q (subst (Filled base q) e f)))
        ];
        listed = λ k p. both_ways (are.listed k p) (not_at j k (λ e is. omega (
          arith,
          e,
          is.above,
          last p (subst (Filled base p) e is.filled),
        )));
      }

  -- p is its first row below the diagonal
  module _ (p : ℕ) (first : IsFirstBelow lane j p) where
    abbrev head : ℕ
    head = slice_index firsts p

    abbrev firsts' : List ℕ
    firsts' = set firsts p (j + 1)

    abbrev nexts' : List ℕ
    nexts' = set nexts j head

    is_parent : IsParent base j p
    is_parent = record {
      above = first.below;
      filled = (column.holds p).0 first.stored;
      least = λ q up f. first.least q up ((column.holds q).1 f);
    }

    one_parent : (q : ℕ) → IsParent base j q → q ≡ p
    one_parent q other = omega (
      arith,
      is_parent.least q other.above other.filled,
      other.least p is_parent.above is_parent.filled,
    )

    first_at : slice_index firsts' p ≡ suc j
    first_at =
        let inside = column.within p first.stored in
        omega (arith, get_or-set_same firsts p (j + 1) 0 (omega (arith, are.first_count, inside)))

    first_other : (q : ℕ) → q ≢ p → slice_index firsts' q ≡ slice_index firsts q
    first_other q ne = get_or-set_other firsts p q (j + 1) 0 ne

    next_at : slice_index nexts' j ≡ head
    next_at = get_or-set_same nexts j head 0 (omega (arith, are.next_count))

    next_other : (k : ℕ) → k ≢ j → slice_index nexts' k ≡ slice_index nexts k
    next_other k ne = get_or-set_other nexts j k head 0 ne

    falling' : AreFalling nexts'
    falling' k = grind (arith, next_at, next_other k, are.heads p, are.falling k)

    -- lists that begin before column j are the same
    kept : (h k : ℕ) → h ≤ j → IsOnList nexts' h k ↔ IsOnList nexts h k
    kept h k le = (
      λ r. IsOnList-same_links nexts j (λ m early. sym (next_other m (omega arith)))
          (λ m early. falling' m) r le,
      λ r. IsOnList-same_links nexts' j (λ m early. next_other m (omega arith))
          (λ m early. are.falling m) r le,
    )

    -- the list of p begins with column j
    listed_here : (k : ℕ) → IsOnList nexts' (suc j) k ↔ ((k < j + 1) × IsParent base k p)
    listed_here k = (
      λ r. elim (IsOnList-cases r j refl) [
        | inl same ↦ rw same (omega arith, is_parent)
        | inr more ↦
            let old = (kept head k (are.heads p)).0 (rw next_at at more) in
            let was = (are.listed k p).0 old in
            (omega (arith, was.0), was.1)
      ],
      λ h. elim (lt_add_one_cases k j h.0) [
        | inl before ↦ next (rw next_at
            ((kept head k (are.heads p)).1 ((are.listed k p).1 (before, h.1))))
        | inr same ↦ rw same here
      ],
    )

    -- and no other list contains column j
    listed_there : (k q : ℕ) → q ≢ p
        → IsOnList nexts' (slice_index firsts q) k ↔ ((k < j + 1) × IsParent base k q)
    listed_there k q ne =
        both_ways (kept (slice_index firsts q) k (are.heads q)) (both_ways (are.listed k q)
        (not_at j k (λ e is. ne (one_parent q (rw e at is)))))

    merged_more : AreMerged base n offsets' rows' firsts' nexts' (j + 1)
    merged_more = record {
      low = are.low;
      within = are.within;
      built = column.built;
      first_count = length-set firsts p (j + 1) ∙ are.first_count;
      next_count = length-set nexts j head ∙ are.next_count;
      falling = falling';
      heads = λ q. grind (arith, first_at, first_other q, are.heads q);
      parents = λ k q early below f. elim (lt_add_one_cases k j early) [
        | inl before ↦ are.parents k q before below f
        | inr e ↦ (p, rw e is_parent)
      ];
      listed = λ k q. elim (cases_eq q p) [
        | inl e ↦ rw (e, first_at) (listed_here k)
        | inr ne ↦ rw (first_other q ne) (listed_there k q ne)
      ];
    }

  -- column j is put on the list of p, or on none if that is 0
  pub merged_next : (p : ℕ) → {f l : List ℕ} → (p ≡ 0 → (i : ℕ) → Contains lane i → i ≤ j)
      → (p ≢ 0 → IsFirstBelow lane j p) → (p ≡ 0 → (f ≡ firsts) × (l ≡ nexts))
      → (p ≢ 0 → f ≡ set firsts p (j + 1)) → (p ≢ 0 → l ≡ set nexts j (slice_index firsts p))
      → AreMerged base n offsets' rows' f l (j + 1)
  merged_next p none some kept first link = elim (cases_eq p 0) [
    | inl e ↦ let same = kept e in rw (same.0, same.1) (merged_last (none e))
    | inr ne ↦ rw (first ne, link ne) (merged_more p (some ne))
  ]
