-- Columns in a list that are changed block by block, where a block is a part of the list with whole
-- columns.
use Rattle.std.proofs.Common.{◌≡◌, ℕ, ◌+◌, ◌-◌, ◌*◌, ◌<◌, ◌≤◌, inl, inr, List, ◌++◌, length}
use Rattle.std.proofs.Common.{get_or, take, drop, slice_range, ap, sym, subst, ◌∙◌, arith}
use Rattle.std.proofs.Common.{length-append, length-drop, refl}
use Rattle.std.proofs.Math.Nat.{add-mul, mul-le-mul_right}
use Rattle.std.proofs.lemmas.List.{get_or-take, get_or-drop, take_all, take_at, take-take}
use Rattle.std.proofs.lemmas.List.{drop_at, drop-drop, drop-take, length-take-le}
use Rattle.std.proofs.lemmas.Slice.{drop-put_mid, take-put_mid_below}
use Rattle.sparse_algebra.proofs.Cases.{lt_or_ge}
use borrow.Rule.Slice.PartMut.{put_mid, post_of, mid_len, same_len_mid}
use Rattle.sparse_dense_ops.specs.InnerBlocks.{AreChanged, AreChangedBelow, column_at}

module _ {T : Type 0} (n : ℕ) (xs : List T) where
  -- a column of a prefix of the list is that column of the list
  column_at-take : (m j size : ℕ) → size ≡ m * n → j < m
      → column_at n (take size xs) j ≡ column_at n xs j
  column_at-take m j size is lt =
      let past : (j + 1) * n ≤ m * n = mul-le-mul_right n (omega arith) in
      let room : j * n + n ≤ size = omega (arith, past, add-mul j 1 n, is) in
      let parts : size ≡ j * n + (size - j * n) = omega (arith, room) in
      ap (λ s. take n (drop (j * n) (take s xs))) parts
      ∙ ap (take n) (drop-take (j * n) (size - j * n) xs)
      ∙ take-take n (size - j * n) (drop (j * n) xs) (omega (arith, room))

  column_at-drop : (j k : ℕ) → column_at n (drop (j * n) xs) k ≡ column_at n xs (j + k)
  column_at-drop j k = ap (take n)
      (drop-drop (k * n) (j * n) xs ∙ ap (λ p. drop p xs) (sym (add-mul j k n)))

  first_column : length xs ≡ n → column_at n xs 0 ≡ xs
  first_column long =
      let none : 0 * n ≡ 0 = omega arith in
      ap (λ p. take n (drop p xs)) none ∙ take_all n xs (omega (arith, long))

  -- entry i of column j is element j * n + i of the list
  pub column_at-entry : (i j : ℕ) (z : T) → i < n
      → get_or (column_at n xs j) i z ≡ get_or xs (j * n + i) z
  column_at-entry i j z lt = get_or-take n (drop (j * n) xs) i z lt ∙ get_or-drop (j * n) xs i z

  pub length-column_at : (m j : ℕ) → length xs ≡ m * n → j < m → length (column_at n xs j) ≡ n
  length-column_at m j long lt =
      let past : (j + 1) * n ≤ m * n = mul-le-mul_right n (omega arith) in
      length-take-le n (drop (j * n) xs)
      (omega (arith, past, add-mul j 1 n, long, length-drop (j * n) xs))

module _ {T : Type 0} (n : ℕ) (xs ys : List T) (m k : ℕ) (long : length xs ≡ m * n) where
  column_at-left : k < m → column_at n (xs ++ ys) k ≡ column_at n xs k
  column_at-left lt = sym (column_at-take n (xs ++ ys) m k (length xs) long lt)
      ∙ ap (λ l. column_at n l k) (take_at xs ys (length xs) refl)

  column_at-right : column_at n (xs ++ ys) (m + k) ≡ column_at n ys k
  column_at-right = sym (column_at-drop n (xs ++ ys) m k)
      ∙ ap (λ l. column_at n l k) (drop_at xs ys (m * n) long)

-- a column with n entries is changed as Q says
pub record IsChanged {T : Type 0} (n : ℕ) (Q : List T → List T → Type 0) (old new : List T) :
    Type 0 where
  pub long : length old ≡ n
  pub same : length new ≡ length old
  pub is : Q old new

module _ {T : Type 0} {n : ℕ} {P : ℕ → List T → List T → Type 0} where
  pub one_column : {old new : List T} → length old ≡ n → length new ≡ length old → P 0 old new
      → AreChanged n 1 P old new
  one_column {old} {new} long same h = record {
    count = same;
    each = λ j lt.
        let here : j ≡ 0 = omega arith in
        rw (here, first_column n old long, first_column n new (same ∙ long)) h;
  }

  -- if the first m columns and the w columns after them are changed, all m + w are
  pub appended : {m w : ℕ} {a b u v : List T} → length a ≡ m * n → AreChanged n m P a u
      → AreChanged n w (λ k. P (m + k)) b v → AreChanged n (m + w) P (a ++ b) (u ++ v)
  appended {m} {w} {a} {b} {u} {v} long h g = record {
    count = omega (arith, length-append a b, length-append u v, h.count, g.count);
    each = λ j lt. elim (lt_or_ge j m) [
      | inl front ↦ rw (
        column_at-left n a b m j long front,
        column_at-left n u v m j (h.count ∙ long) front,
      ) (h.each j front)
      | inr behind ↦
          let k = j - m in
          let place : m + k ≡ j = omega arith in
          subst (λ j. P j (column_at n (a ++ b) j) (column_at n (u ++ v) j)) place
          (rw (column_at-right n a b m k long, column_at-right n u v m k (h.count ∙ long))
          (g.each k (omega arith)))
    ];
  }

  -- if the first j columns and the next block of w are changed, the first j + w are
  pub block_more : {m j w : ℕ} {old now new : List T} → length old ≡ m * n → j + w ≤ m
      → AreChangedBelow n j P old now
      → AreChanged n w (λ k. P (j + k)) (slice_range now (j * n) ((j + w) * n)) new
      → AreChangedBelow n (j + w) P old (put_mid (j * n) ((j + w) * n - j * n) now new)
  block_more {m} {j} {w} {old} {now} {new} count room h g = record {
    count = same_len_mid s (e - s) now new (long ∙ sym (mid_len s e now inside)) ∙ h.count;
    before = λ l lt. elim (lt_or_ge l j) [
      | inl less ↦
          let kept : column_at n all l ≡ column_at n now l =
          sym (column_at-take n all j l s refl less)
          ∙ ap (λ xs. column_at n xs l) (take-put_mid_below s (e - s) now new s (omega arith) start)
          ∙ column_at-take n now j l s refl less in
          rw kept (h.before l less)
      | inr le ↦
          let k = l - j in
          let place : j + k ≡ l = omega arith in
          let within : k < w = omega arith in
          let was : column_at n (slice_range now s e) k ≡ column_at n old (j + k) =
          column_at-take n (drop s now) w k (e - s) (omega (arith, parts)) within
          ∙ ap (λ xs. column_at n xs k) h.behind ∙ column_at-drop n old j k in
          let is : column_at n all (j + k) ≡ column_at n new k = sym (column_at-drop n all j k)
          ∙ ap (λ xs. column_at n xs k) (drop_at (take s now) (new ++ post_of s (e - s) now) s
          (length-take-le s now start))
          ∙ column_at-left n new (post_of s (e - s) now) w k (omega (arith, long, parts)) within in
          subst (λ l. P l (column_at n old l) (column_at n all l)) place
          (rw (← was, is) (g.each k within))
    ];
    behind = drop-put_mid s (e - s) now new e (omega (arith, parts)) start long
        ∙ behind_block;
  }
    where
      s : ℕ
      s = j * n

      e : ℕ
      e = (j + w) * n

      all : List T
      all = put_mid (j * n) ((j + w) * n - j * n) now new

      parts : (j + w) * n ≡ j * n + w * n
      parts = add-mul j w n

      inside : (j + w) * n ≤ length now
      inside = omega (arith, h.count, count, mul-le-mul_right n room)

      start : j * n ≤ length now
      start = omega (arith, inside, parts)

      long : length new ≡ (j + w) * n - j * n
      long = g.count ∙ mid_len (j * n) ((j + w) * n) now inside

      behind_block : drop ((j + w) * n) now ≡ drop ((j + w) * n) old
      behind_block =
          let later = λ (xs : List T). drop-drop (w * n) (j * n) xs
          ∙ ap (λ p. drop p xs) (sym parts) in
          sym (later now) ∙ ap (drop (w * n)) h.behind ∙ later old

-- four columns that are changed, concatenated
pub four_columns : {T : Type 0} {n : ℕ} {P : ℕ → List T → List T → Type 0}
    {a b c d u v w x : List T}
    → IsChanged n (P 0) a u → IsChanged n (P 1) b v → IsChanged n (P 2) c w
    → IsChanged n (P 3) d x → AreChanged n 4 P (a ++ (b ++ (c ++ d))) (u ++ (v ++ (w ++ x)))
four_columns {n = n} first second third fourth =
    let one : 1 * n ≡ n = omega arith in
    appended {m = 1} (first.long ∙ sym one) (one_column first.long first.same first.is)
    (appended {m = 1} (second.long ∙ sym one) (one_column second.long second.same second.is)
    (appended {m = 1} (third.long ∙ sym one) (one_column third.long third.same third.is)
    (one_column fourth.long fourth.same fourth.is)))
