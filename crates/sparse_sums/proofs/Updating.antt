-- Sums into the pattern of a given matrix, stated by plain matrices.
use Rattle.std.proofs.Common.{◌≡◌, ℕ, ◌↔◌, Bool, true, false, inl, inr, List, length, ap, ◌∙◌}
use Rattle.std.proofs.Common.{refl, subst}
use Rattle.std.specs.Prelude.{Result, Ok, Err, IsOk, OnOk, OnErr}
use Rattle.std.proofs.lemmas.List.{take_at}
use Rattle.sparse_algebra.proofs.Cases.{true_or_false}
use Rattle.sparse_algebra.specs.Algebra.{CommRing}
use Rattle.sparse_algebra.specs.Plain.{Plain, IsProper, plain_transpose}
use Rattle.sparse_algebra.proofs.RingLemmas.{mul_zero}
use Rattle.sparse_algebra.proofs.PlainLaws.{proper_transpose}
use Rattle.sparse_pattern.specs.Raw.{Raw, IsEntry}
use Rattle.sparse_algebra.specs.Prealloc.{plain_update, IsCovered}
use Rattle.sparse_compressed.specs.Compressed.{Compressed, compressed_of, IsSound}
use Rattle.sparse_compressed.specs.PlainOfLanes.{plain_of_rows, plain_of_cols}
use Rattle.sparse_compressed.specs.Writing.{with_values}
use Rattle.sparse_compressed.proofs.Arrays.{proper_rows}
use Rattle.sparse_compressed.proofs.ArraysDeterminePlain.{plain_of_rows-has_lanes}
use Rattle.sparse_compressed.proofs.Updates.{updated}
use Rattle.sparse_sums.specs.InnerTargets.{ContainsPatternOf}
use Rattle.sparse_compressed.specs.InnerUpdates.{AreUpdated}
use Rattle.sparse_algebra.specs.Prealloc.{plain_transpose_if}

-- values updated by x at each entry of m give the updated plain matrix, if m has an entry at each place of x
pub update_is : (R : CommRing) {T : Type 0} (f : T → R.Carrier) (z : T) {m : Compressed T}
    (x : Plain R) (beta alpha : R.Carrier) (ws : List T) → IsSound m
    → length ws ≡ length m.values → IsProper x → IsCovered x (plain_of_rows R f m)
    → AreUpdated R f z m.pattern beta alpha x.value m.values ws
    → plain_of_rows R f (compressed_of m.pattern ws)
    ≡ plain_update R beta (plain_of_rows R f m) alpha x
update_is R f z {m} x beta alpha ws sound long proper covered values =
    let was = plain_of_rows-has_lanes R f m sound in
    updated R f z m ws (plain_update R beta (plain_of_rows R f m) alpha x).value sound long
    (λ i j none.
    let off : x.has i j ≡ false = elim (true_or_false (x.has i j)) [
      | inl hit ↦ let there = covered i j hit in cc
      | inr miss ↦ miss
    ] in
    ap (λ c. R.add (R.mul beta c) (R.mul alpha (x.value i j))) (was.proper i j none)
    ∙ ap (λ c. R.add c (R.mul alpha (x.value i j))) (mul_zero R beta)
    ∙ ap (λ c. R.add R.zero (R.mul alpha c)) (proper i j off)
    ∙ ap (R.add R.zero) (mul_zero R alpha) ∙ R.laws.add_zero R.zero)
    (λ i j p at. values i j p at
    ∙ ap (λ c. R.add (R.mul beta c) (R.mul alpha (x.value i j))) (was.values i j p z at))

-- the pattern of m contains that of a, transposed or not, if and only if its plain matrix covers that of a
covered_is : (R : CommRing) {T : Type 0} (f : T → R.Carrier) {m a : Compressed T} → IsSound m
    → IsSound a → (transposed : Bool)
    → ContainsPatternOf m.pattern transposed a.pattern
    ↔ IsCovered (plain_transpose_if R transposed (plain_of_rows R f a)) (plain_of_rows R f m)
covered_is R f {m} {a} sm sa transposed = both transposed
  where
    here : (i j : ℕ) → IsEntry m.pattern i j ↔ ((plain_of_rows R f m).has i j ≡ true)
    here = (plain_of_rows-has_lanes R f m sm).places

    there : (i j : ℕ) → IsEntry a.pattern i j ↔ ((plain_of_rows R f a).has i j ≡ true)
    there = (plain_of_rows-has_lanes R f a sa).places

    both : (t : Bool) → ContainsPatternOf m.pattern t a.pattern
        ↔ IsCovered (plain_transpose_if R t (plain_of_rows R f a)) (plain_of_rows R f m)
    both true = (
      λ h i j x. (here i j).0 (h j i ((there j i).1 x)),
      λ h i j x. (here j i).1 (h j i ((there i j).0 x)),
    )
    both false = (
      λ h i j x. (here i j).0 (h i j ((there i j).1 x)),
      λ h i j x. (here i j).1 (h i j ((there i j).0 x)),
    )

transposed_proper : (R : CommRing) {T : Type 0} (f : T → R.Carrier) (a : Compressed T)
    (transposed : Bool) → IsProper (plain_transpose_if R transposed (plain_of_rows R f a))
transposed_proper R f a true = proper_transpose R (plain_of_rows R f a) (proper_rows R f a)
transposed_proper R f a false = proper_rows R f a

-- P at Ok gives Q at Ok, if P implies Q there
pub on_ok_also : {X E : Type 0} (r : Result X E) {P Q : Type 0} → (IsOk r → P → Q) → OnOk r P
    → OnOk r Q
on_ok_also (Ok x) h p = h refl p
on_ok_also (Err e) h p = tt

-- writing all values replaces the values of the matrix
pub written_back : {T : Type 0} (m : Compressed T) (ws : List T) → length ws ≡ length m.values
    → with_values m ws ≡ compressed_of m.pattern ws
written_back m ws long = ap (compressed_of m.pattern) (take_at ws _ _ long)

-- writing back equal values leaves the matrix unchanged
unchanged_at_err : {T X E : Type 0} (r : Result X E) (m : Compressed T) (ws vs : List T)
    → vs ≡ m.values
    → length ws ≡ length m.values → OnErr r (ws ≡ vs) → OnErr r (with_values m ws ≡ m)
unchanged_at_err (Ok x) m ws vs is long same = tt
unchanged_at_err (Err e) m ws vs is long same = written_back m ws long
    ∙ ap (compressed_of m.pattern) (same ∙ is)

-- the contract of a sum of x into a matrix, where `see` gives the plain matrix of a matrix
pub record IsSummed (R : CommRing) {M E : Type 0} (see : M → Plain R) (old new : M)
    (r : Result (Unit {0}) E) (beta alpha : R.Carrier) (x : Plain R) : Type 0 where
  pub covered : IsOk r ↔ IsCovered x (see old)
  pub unchanged : OnErr r (new ≡ old)
  pub updated : OnOk r (see new ≡ plain_update R beta (see old) alpha x)

-- a sum into m, whose pattern is borrowed as d and whose values as vs
module _ (R : CommRing) {T : Type 0} (f : T → R.Carrier) (z : T) {m a x : Compressed T}
    (sm : IsSound m) (sx : IsSound x) (x_is : x ≡ a) {d : Raw} (d_is : d ≡ m.pattern)
    {vs : List T} (vs_is : vs ≡ m.values) (transposed : Bool) {E : Type 0}
    (r : Result (Unit {0}) E) (beta alpha : R.Carrier) (ws : List T)
    (places : IsOk r ↔ ContainsPatternOf d transposed x.pattern) (count : length ws ≡ length vs)
    (refused : OnErr r (ws ≡ vs))
    (added : OnOk r (AreUpdated R f z d beta alpha
    (plain_transpose_if R transposed (plain_of_rows R f x)).value vs ws)) where
  pub rows_summed : IsSummed R (plain_of_rows R f) m (with_values m ws) r beta alpha
      (plain_transpose_if R transposed (plain_of_rows R f a))
  rows_summed =
      let sa = subst IsSound x_is sx in
      let long = count ∙ ap length vs_is in
      let ok = rw (x_is, d_is) at places in
      let same = covered_is R f sm sa transposed in
      record {
        covered = (λ h. same.0 (ok.0 h), λ h. ok.1 (same.1 h));
        unchanged = unchanged_at_err r m ws vs vs_is long refused;
        updated = on_ok_also r (λ is values. ap (plain_of_rows R f) (written_back m ws long)
            ∙ update_is R f z (plain_transpose_if R transposed (plain_of_rows R f a)) beta alpha
            ws sm long (transposed_proper R f a transposed) (same.0 (ok.0 is)) values)
            (rw (x_is, d_is, vs_is) at added);
      }

  -- the same by columns
  pub cols_summed : IsSummed R (plain_of_cols R f) m (with_values m ws) r beta alpha
      (plain_transpose R (plain_transpose_if R transposed (plain_of_rows R f a)))
  cols_summed = record {
    covered = (
      λ h i j x. rows_summed.covered.0 h j i x,
      λ h. rows_summed.covered.1 (λ i j x. h j i x),
    );
    unchanged = rows_summed.unchanged;
    updated = on_ok_also r (λ _ same. ap (plain_transpose R) same) rows_summed.updated;
  }
