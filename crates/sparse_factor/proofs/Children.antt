-- Linked lists of columns, where each link leads to a column before it.
use Rattle.std.proofs.Common.{◌≡◌, ◌≢◌, ℕ, suc, ◌+◌, ◌-◌, ◌<◌, ◌≤◌, inl, inr, ◌⊎◌, List}
use Rattle.std.proofs.Common.{slice_index}
use Rattle.std.proofs.Common.{length, map, get_or, refl, sym, ap, ◌∙◌, subst, arith}
use Rattle.std.proofs.lemmas.List.{get_or-map, get_or_default}
use Rattle.sparse_factor.specs.InnerColumns.{IsRun, IsInTail, AreColumns}
use Rattle.sparse_factor.specs.InnerChildren.{IsOnList, here, next, AreFalling, IsTailRun}
use Rattle.sparse_factor.proofs.Runs.{run_part}

-- the first column of a list is that of its head, and the others are on the list of its link
pub IsOnList-cases : {nexts : List ℕ} {head m : ℕ} → IsOnList nexts head m → (k : ℕ) → head ≡ suc k
    → (m ≡ k) ⊎ IsOnList nexts (slice_index nexts k) m
IsOnList-cases (here {k}) l e = inl (omega arith)
IsOnList-cases {nexts} {head} {m} (next {k} r) l e =
    let same : k ≡ l = omega arith in
    inr (subst (λ x. IsOnList nexts (slice_index nexts x) m) same r)

pub IsOnList-none : {nexts : List ℕ} {head m : ℕ} → IsOnList nexts head m → head ≡ 0 → ⊥
IsOnList-none here e = omega arith
IsOnList-none (next r) e = omega arith

pub IsOnList-head : {nexts : List ℕ} {head k : ℕ} → head ≡ suc k → IsOnList nexts head k
IsOnList-head {nexts} {k = k} e = subst (λ h. IsOnList nexts h k) (sym e) here

-- a list contains the columns on the list of its first link
pub IsOnList-next : {nexts : List ℕ} {head link k : ℕ} → head ≢ 0
    → link ≡ slice_index nexts (head - 1) → IsOnList nexts link k → IsOnList nexts head k
IsOnList-next {nexts} {head} {k = k} some is r =
    let e : head ≡ suc (head - 1) = omega (arith, some) in
    subst (λ h. IsOnList nexts h k) (sym e) (next (subst (λ h. IsOnList nexts h k) is r))

-- the columns on a list are less than its head
pub IsOnList-below : {nexts : List ℕ} {head m : ℕ} → AreFalling nexts → IsOnList nexts head m → m < head
IsOnList-below falling here = omega arith
IsOnList-below falling (next {k} r) = omega (arith, IsOnList-below falling r, falling k)

-- a list is the same if the links of its columns are the same
pub IsOnList-same_links : {nexts : List ℕ} (new : List ℕ) {head m : ℕ} (j : ℕ)
    → ((k : ℕ) → k < j → slice_index new k ≡ slice_index nexts k)
    → ((k : ℕ) → k < j → slice_index nexts k ≤ k) → IsOnList nexts head m → head ≤ j
    → IsOnList new head m
IsOnList-same_links new j same falling here le = here
IsOnList-same_links {nexts} new j same falling (next {k} {m} r) le =
    next (subst (λ h. IsOnList new h m) (sym (same k (omega arith)))
    (IsOnList-same_links new j same falling r (omega (arith, falling k (omega arith)))))

-- the number at an offset
pub number_at : {C : Type 0} (f : C → ℕ) (xs : List C) (t : ℕ) {n : ℕ} {x : C} → t < length xs
    → x ≡ get_or xs t x → n ≡ f x → n ≡ slice_index (map f xs) t
number_at f xs t {x = x} lt read is = is ∙ (ap f read ∙ sym (get_or-map f xs t x 0 lt))

-- the link of the column of a head, as it is read
pub link_at : {C : Type 0} (f : C → ℕ) (links : List C) (count head : ℕ) {link : ℕ} {x : C}
    → head ≢ 0 → head < count → count ≤ length links + 1 → x ≡ get_or links (head - 1) x
    → link ≡ f x → link ≡ slice_index (map f links) (head - 1)
link_at f links count head some within linked read is =
    number_at f links (head - 1) (omega (arith, some, within, linked)) read is

-- ---- the column of a head

-- the rows from `from` to `to` are the column of the head
pub record IsColumnAt (offsets rows : List ℕ) (head from to : ℕ) : Type 0 where
  pub head_is : head ≡ suc (head - 1)
  pub from_is : from ≡ slice_index offsets (head - 1)
  pub to_is : to ≡ slice_index offsets (head - 1 + 1)
  pub run : IsRun rows from to
  pub low : (p : ℕ) → from ≤ p → p < to → head - 1 ≤ slice_index rows p

-- the bounds are read from the offsets
pub column_at : {offsets rows : List ℕ} {head from to : ℕ} → AreColumns offsets rows → head ≢ 0
    → head < length offsets → from ≡ get_or offsets (head - 1) from → to ≡ get_or offsets head to
    → IsColumnAt offsets rows head from to
column_at {offsets} {rows} {head} {from} {to} are some within low high =
    let inside : head - 1 + 1 < length offsets = omega (arith, some, within) in
    let next : head ≡ head - 1 + 1 = omega (arith, some) in
    let from_is : from ≡ slice_index offsets (head - 1) =
    low ∙ get_or_default offsets (head - 1) from 0 (omega (arith, within)) in
    let to_is : to ≡ slice_index offsets (head - 1 + 1) =
    high ∙ get_or_default offsets head to 0 within ∙ ap (slice_index offsets) next in
    record {
      head_is = omega (arith, some);
      from_is = from_is;
      to_is = to_is;
      run = rw (from_is, to_is) (are.runs (head - 1) inside);
      low = λ p after before. are.low (head - 1) (slice_index rows p) inside record {
        at = p;
        from = omega (arith, after, from_is);
        to = omega (arith, before, to_is);
        is = refl;
      };
    }

-- the tail of a column is its run after the row on the diagonal, if it has that row
pub tail_at : {offsets rows : List ℕ} {head from to : ℕ} → IsColumnAt offsets rows head from to
    → (start : ℕ) → from ≤ start → start ≤ to
    → ((p : ℕ) → from ≤ p → p < start → slice_index rows p ≡ head - 1)
    → ((p : ℕ) → start ≤ p → p < to → head - 1 < slice_index rows p)
    → IsTailRun offsets rows head start to
tail_at {offsets} {rows} {head} {to = to} column start after within same above = record {
  run = run_part column.run start to after within (omega arith);
  has = λ i. (
    λ h. (
      head - 1,
      column.head_is,
      (
        record {
          at = h.at;
          from = omega (arith, after, h.from, column.from_is);
          to = omega (arith, h.to, column.to_is);
          is = h.is;
        },
        omega (arith, above h.at h.from h.to, h.is),
      ),
    ),
    λ h.
        let e : h.0 ≡ head - 1 = omega (arith, h.1) in
        let (row, below) = subst (λ k. IsInTail offsets rows k i) e h.2 in
        record {
          at = row.at;
          from = grind (arith, same row.at, row.from, row.is, below, column.from_is);
          to = omega (arith, row.to, column.to_is);
          is = row.is;
        },
  );
}

pub no_tail : (offsets rows : List ℕ) → IsTailRun offsets rows 0 0 0
no_tail offsets rows = record {
  run = record {
    ordered = omega arith;
    inside = omega arith;
    rising = λ p q from lt to. absurd (omega arith);
  };
  has = λ i. (λ h. absurd (omega (arith, h.from, h.to)), λ h. absurd (omega (arith, h.1)));
}
