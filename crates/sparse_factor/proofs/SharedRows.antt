-- Four columns of which the rows of the first are read once for all: the part in these rows, and the
-- rest of each of the other three.
use Rattle.std.proofs.Common.{◌≡◌, ℕ, ◌+◌, ◌-◌, ◌<◌, ◌≤◌, List, ◌++◌, length, take, drop}
use Rattle.std.proofs.Common.{slice_index, slice_range, All, ap, sym, ◌∙◌, arith}
use Rattle.std.proofs.lemmas.List.{get_or_default, same_lists, take-append-drop, take-take}
use Rattle.std.proofs.lemmas.List.Edits.{get_or-between, length-between}
use Rattle.sparse_algebra.specs.Algebra.{CommRing}
use Rattle.sparse_algebra.specs.Sums.{where_true}
use Rattle.std.specs.Prelude.{nat_eq}
use Rattle.sparse_pattern.specs.Raw.{Raw, end_of, IsInLane, IsValid}
use Rattle.sparse_sums.proofs.Adding.{sum_zip-append}
use Rattle.sparse_dense_ops.specs.SparseVectors.{AddsMultiple, elements, sparse_elements}
use Rattle.sparse_dense_ops.proofs.SparseVectors.{drop_range}
use Rattle.sparse_factor.specs.InnerNested.{AddsFour, AreFirstRows, IsUpdatedByFour}
use Rattle.sparse_factor.specs.InnerNested.{column_from, scale_at}

-- a range is its first n elements, and the rest
range_split : {X : Type 0} (xs : List X) (from n to : ℕ) → from + n ≤ to
    → slice_range xs from to ≡ slice_range xs from (from + n) ++ slice_range xs (from + n) to
range_split xs from n to le =
    let size : from + n - from ≡ n = omega arith in
    let first : take n (slice_range xs from to) ≡ slice_range xs from (from + n) =
    take-take n (to - from) (drop from xs) (omega (arith, le))
    ∙ ap (λ m. take m (drop from xs)) (sym size) in
    sym (take-append-drop n (slice_range xs from to))
    ∙ ap (λ l. l ++ drop n (slice_range xs from to)) first
    ∙ ap (λ l. slice_range xs from (from + n) ++ l) (drop_range xs from to n le)

module _ (R : CommRing) {T : Type 0} (f : T → R.Carrier) where
  -- the next n entries of a column, as a vector with given rows
  abbrev pub next_entries : List ℕ → List T → ℕ → ℕ → ℕ → ℕ → R.Carrier
  next_entries rows values from c n = sparse_elements R f (slice_range rows from (from + n))
      (slice_range values c (c + n))

  -- a column from an offset on is its next n entries, and the rest
  pub column_split : (p : Raw) (values : List T) (k c n : ℕ) → c + n ≤ end_of p k
      → end_of p k ≤ length p.indices → length values ≡ length p.indices → (i : ℕ)
      → column_from R f p values k c i ≡ R.add (next_entries p.indices values c c n i)
      (column_from R f p values k (c + n) i)
  column_split p values k c n le inside fits i =
      let e = end_of p k in
      ap (λ l. sparse_elements R f l (slice_range values c e) i) (range_split p.indices c n e le)
      ∙ ap (λ l. sparse_elements R f (slice_range p.indices c (c + n)
      ++ slice_range p.indices (c + n) e) l i) (range_split values c n e le)
      ∙ sum_zip-append R (λ t. where_true R (nat_eq t.0 i) (f t.1))
      (slice_range p.indices c (c + n)) (slice_range p.indices (c + n) e)
      (slice_range values c (c + n)) (slice_range values (c + n) e)
      (length-between values c (c + n) (omega (arith, le, inside, fits))
      ∙ sym (length-between p.indices c (c + n) (omega (arith, le, inside))))

-- an offset of a column is an offset of the pattern
pub offset_within : {p : Raw} {k c : ℕ} → IsValid p → IsInLane p k c → c < length p.indices
offset_within {k = k} valid here =
    let to = here.to in
    omega (arith, to, (valid.lanes k here.lane).inside)

-- where the rows of column k from offset c on are the first of those of column l from offset d on,
-- these many entries of column l are there
pub first_within : {p : Raw} {k c l d : ℕ} → IsValid p → l < p.major_dim → AreFirstRows p k c l d
    → (n : ℕ) → c + n ≡ end_of p k → d + n ≤ length p.indices
first_within {l = l} valid lane first n end =
    let fits = first.fits in
    omega (arith, end, fits, (valid.lanes l lane).inside)

-- the rows of a column from an offset on are rows of the matrix
pub rows_within : {p : Raw} {k c : ℕ} → IsValid p → IsInLane p k c → (n : ℕ) → c + n ≡ end_of p k
    → All (λ i. i < p.minor_dim) (slice_range p.indices c (c + n))
rows_within {p} {k} {c} valid here n end q d lt =
    let lane = valid.lanes k here.lane in
    let from = here.from in
    let room : q < n = omega (
      arith,
      lt,
      end,
      length-between p.indices c (c + n)
          (omega (arith, end, lane.inside)),
    ) in
    rw (
      get_or-between p.indices c (c + n) q d (omega arith),
      get_or_default p.indices (c + q) d 0 (omega (arith, room, end, lane.inside)),
    ) (lane.bounded (c + q) (omega arith) (omega arith))

-- equal rows from two offsets on
rows_shared : (p : Raw) (k c l d n : ℕ) → AreFirstRows p k c l d → c + n ≡ end_of p k
    → end_of p k ≤ length p.indices → end_of p l ≤ length p.indices
    → slice_range p.indices d (d + n) ≡ slice_range p.indices c (c + n)
rows_shared p k c l d n first end inside_k inside_l =
    let is = first.fits in
    let left = length-between p.indices d (d + n) (omega (arith, is, end, inside_l)) in
    let right = length-between p.indices c (c + n) (omega (arith, end, inside_k)) in
    same_lists _ _ (omega (arith, left, right)) (λ i e lt.
    let less : i < n = omega (arith, lt, left) in
    get_or-between p.indices d (d + n) i e (omega arith)
    ∙ get_or_default p.indices (d + i) e 0 (omega (arith, is, end, inside_l, less))
    ∙ first.same i (omega (arith, less, end))
    ∙ get_or_default p.indices (c + i) 0 e (omega (arith, end, inside_k, less))
    ∙ sym (get_or-between p.indices c (c + n) i e (omega arith)))

module _ (R : CommRing) where
  swapped : (x a b : R.Carrier) → R.add (R.add x a) b ≡ R.add (R.add x b) a
  swapped x a b = R.laws.add_assoc x a b ∙ ap (R.add x) (R.laws.add_comm a b)
      ∙ sym (R.laws.add_assoc x b a)

  -- four terms added at once, and then what is left of the last three
  regrouped : (x p q r s q' r' s' : R.Carrier)
      → R.add (R.add (R.add (R.add x (R.add (R.add p q) (R.add r s))) q') r') s'
      ≡ R.add (R.add (R.add (R.add x p) (R.add q q')) (R.add r r')) (R.add s s')
  regrouped x p q r s q' r' s' =
      let w = R.add (R.add x p) q in
      ap (λ t. R.add (R.add (R.add t q') r') s')
      (sym (R.laws.add_assoc x (R.add p q) (R.add r s))
      ∙ ap (λ t. R.add t (R.add r s)) (sym (R.laws.add_assoc x p q))
      ∙ sym (R.laws.add_assoc w r s))
      ∙ ap (λ t. R.add (R.add t r') s') (swapped (R.add w r) s q'
      ∙ ap (λ t. R.add t s) (swapped w r q'))
      ∙ ap (λ t. R.add t s') (swapped (R.add (R.add w q') r) s r')
      ∙ R.laws.add_assoc (R.add (R.add (R.add w q') r) r') s s'
      ∙ ap (λ t. R.add t (R.add s s')) (R.laws.add_assoc (R.add w q') r r'
      ∙ ap (λ t. R.add t (R.add r r')) (R.laws.add_assoc (R.add x p) q q'))

  -- the same four terms
  sums-same : (x : R.Carrier) {p q r s p' q' r' s' : R.Carrier} → p ≡ p' → q ≡ q' → r ≡ r'
      → s ≡ s' → R.add (R.add (R.add (R.add x p) q) r) s
      ≡ R.add (R.add (R.add (R.add x p') q') r') s'
  sums-same x {p} {q} {r} {s} {p'} {q'} {r'} {s'} ep eq er es =
      ap (λ t. R.add (R.add (R.add (R.add x t) q) r) s) ep
      ∙ ap (λ t. R.add (R.add (R.add (R.add x p') t) r) s) eq
      ∙ ap (λ t. R.add (R.add (R.add (R.add x p') q') t) s) er
      ∙ ap (R.add (R.add (R.add (R.add x p') q') r')) es

-- the entries of four columns in the rows of the first, and then the rest of the others
module _ (R : CommRing) {T : Type 0} (f : T → R.Carrier) (z : T) {p : Raw} (valid : IsValid p)
    (values : List T) (fits : length values ≡ length p.indices) (k : ℕ)
    (lanes : k + 3 < p.major_dim) (cursors : List ℕ)
    (cursor : IsInLane p k (slice_index cursors k))
    (second : AreFirstRows p k (slice_index cursors k) (k + 1) (slice_index cursors (k + 1)))
    (third : AreFirstRows p k (slice_index cursors k) (k + 2) (slice_index cursors (k + 2)))
    (fourth : AreFirstRows p k (slice_index cursors k) (k + 3) (slice_index cursors (k + 3)))
    (n : ℕ) (end : slice_index cursors k + n ≡ end_of p k) where
  abbrev at : ℕ → ℕ
  at i = slice_index cursors i

  -- the next n entries of column l, in the rows of the first column
  abbrev part : ℕ → ℕ → R.Carrier
  part l i = next_entries R f p.indices values (at k) (at l) n i

  -- column l from its cursor on
  abbrev column : ℕ → ℕ → R.Carrier
  column l = column_from R f p values l (at l)

  inside : (l : ℕ) → l < p.major_dim → end_of p l ≤ length p.indices
  inside l lane = (valid.lanes l lane).inside

  -- column l is its part and the rest
  parts : (l : ℕ) → l < p.major_dim → AreFirstRows p k (at k) l (at l) → (i : ℕ)
      → column_from R f p values l (at l) i
      ≡ R.add (part l i) (column_from R f p values l (at l + n) i)
  parts l lane first i =
      let is = first.fits in
      column_split R f p values l (at l) n (omega (arith, is, end)) (inside l lane) fits i
      ∙ ap (λ rows. R.add (sparse_elements R f rows (slice_range values (at l) (at l + n)) i)
      (column_from R f p values l (at l + n) i))
      (rows_shared p k (at k) l (at l) n first end (inside k cursor.lane) (inside l lane))

  -- the part of the first column is the column
  whole : (i : ℕ) → part k i ≡ column_from R f p values k (at k) i
  whole i = ap (λ e. sparse_elements R f (slice_range p.indices (at k) e)
      (slice_range values (at k) e) i) end

  pub four_updated : (x x1 x2 x3 y : List T) {a b c d : R.Carrier}
      → AddsFour R f z a b c d (part k) (part (k + 1)) (part (k + 2)) (part (k + 3)) x x1
      → a ≡ scale_at R f z values x k (at k)
      → b ≡ scale_at R f z values x (k + 1) (at (k + 1))
      → c ≡ scale_at R f z values x (k + 2) (at (k + 2))
      → d ≡ scale_at R f z values x (k + 3) (at (k + 3))
      → length x1 ≡ length x → length x2 ≡ length x → length x3 ≡ length x
      → AddsMultiple R f z b (column_from R f p values (k + 1) (at (k + 1) + n)) x1 x2
      → AddsMultiple R f z c (column_from R f p values (k + 2) (at (k + 2) + n)) x2 x3
      → AddsMultiple R f z d (column_from R f p values (k + 3) (at (k + 3) + n)) x3 y
      → IsUpdatedByFour R f z p values k cursors x y
  four_updated x x1 x2 x3 y {a} {b} {c} {d} four is_a is_b is_c is_d long1 long2 long3 rest1 rest2
      rest3 = record {
        each = λ i lt.
            let xi = elements R f z x i in
            let left : ℕ → R.Carrier = λ l. column_from R f p values l (at l + n) i in
            let join : (e : R.Carrier) (l : ℕ) (lane : l < p.major_dim)
            → AreFirstRows p k (at k) l (at l) → R.add (R.mul e (part l i)) (R.mul e (left l))
            ≡ R.mul e (column_from R f p values l (at l) i) =
            λ e l lane first. sym (R.laws.distrib e (part l i) (left l))
            ∙ ap (R.mul e) (sym (parts l lane first i)) in
            rest3 i (omega (arith, lt, long3))
            ∙ ap (λ t. R.add t (R.mul d (left (k + 3)))) (rest2 i (omega (arith, lt, long2))
            ∙ ap (λ t. R.add t (R.mul c (left (k + 2)))) (rest1 i (omega (arith, lt, long1))
            ∙ ap (λ t. R.add t (R.mul b (left (k + 1)))) (four i lt)))
            ∙ regrouped R xi (R.mul a (part k i)) (R.mul b (part (k + 1) i))
            (R.mul c (part (k + 2) i)) (R.mul d (part (k + 3) i)) (R.mul b (left (k + 1)))
            (R.mul c (left (k + 2))) (R.mul d (left (k + 3)))
            ∙ sums-same R xi (ap (R.mul a) (whole i) ∙ ap (λ e. R.mul e (column k i)) is_a)
            (join b (k + 1) (omega (arith, lanes)) second ∙ ap (λ e. R.mul e (column (k + 1) i)) is_b)
            (join c (k + 2) (omega (arith, lanes)) third ∙ ap (λ e. R.mul e (column (k + 2) i)) is_c)
            (join d (k + 3) lanes fourth ∙ ap (λ e. R.mul e (column (k + 3) i)) is_d);
      }
