-- Combinations of two matrices: their number of rows, a difference as a sum of multiples, and the contract of a sum
-- that is merged straight into the output arrays.
use Rattle.std.proofs.Common.{◌≡◌, ◌≢◌, ℤ, pos, inl, inr, ap, sym, subst, ◌∙◌, refl, arith}
use Rattle.std.specs.Prelude.{nat_abs}
use Rattle.sparse_algebra.proofs.PlainLemmas.{same_plain}
use Rattle.sparse_algebra.proofs.Products.{mul_neg}
use Rattle.sparse_algebra.specs.Algebra.{CommRing}
use Rattle.sparse_algebra.specs.Integers.{element_of}
use Rattle.sparse_algebra.specs.Plain.{Plain, plain_negation, plain_scaled, plain_sum}
use Rattle.sparse_compressed.specs.Compressed.{Compressed, IsSound}
use Rattle.c_arrays.proofs.Answering.{same_rows, seen_rows, small_not_zero}
use Rattle.c_arrays.proofs.ValidStatuses.{pair_finds_fault}
use Rattle.c_arrays.specs.Arrays.{plain_by_rows, output_arrays, OutputArrays, HoldsRows}
use Rattle.c_arrays.specs.Refused.{IsFaultOfPair}
use Rattle.c_arrays.specs.Rests.{KeepsRest}
use Rattle.c_arrays.specs.Statuses.{number_of, FindsNoFault}
use Rattle.c_arrays.specs.Written.{WritesRows}
use Rattle.c_arrays.specs.declared.refusal.Refusal.{Refusal}
use Rattle.sparse_c.specs.Combinations.{combined_by, IsSumOf}
use Rattle.sparse_c.specs.declared.arguments.Combination.{Combination}
use Rattle.sparse_c.specs.declared.arguments.Combination.TheVariants.{Sum, Difference}
use Rattle.sparse_c.specs.declared.arguments.Combination.TheVariants.{Multiples, Product}

-- a combination has as many rows as the first matrix
pub rows-combined : (R : CommRing) (how : Combination) (s : R.Carrier) (a : Plain R)
    (t : R.Carrier) (b : Plain R) → (combined_by R how s a t b).rows ≡ a.rows
rows-combined R Sum s a t b = refl
rows-combined R Difference s a t b = refl
rows-combined R Multiples s a t b = refl
rows-combined R Product s a t b = refl

module _ (R : CommRing) where
  once : (a : Plain R) → plain_scaled R R.one a ≡ a
  once a = same_plain (plain_scaled R R.one a) a refl refl (λ i j. refl)
      (λ i j. R.laws.mul_comm R.one (a.value i j) ∙ R.laws.mul_one (a.value i j))

  plain_scaled-minus_one : (a : Plain R) → plain_scaled R (R.neg R.one) a ≡ plain_negation R a
  plain_scaled-minus_one a = same_plain (plain_scaled R (R.neg R.one) a) (plain_negation R a) refl refl
      (λ i j. refl) (λ i j. R.laws.mul_comm (R.neg R.one) (a.value i j)
      ∙ mul_neg R (a.value i j) R.one ∙ ap R.neg (R.laws.mul_one (a.value i j)))

  module _ (how : Combination) (s t x y : R.Carrier) where
    pub IsSumOf-difference : how ≡ Difference → x ≡ R.one → y ≡ R.neg R.one → IsSumOf R how s t x y
    IsSumOf-difference is ex ey a b = ap (λ (h : Combination). combined_by R h s a t b) is
        ∙ (λ k. plain_sum R (sym (ap (λ c. plain_scaled R c a) ex ∙ once a) k)
        (sym (ap (λ c. plain_scaled R c b) ey ∙ plain_scaled-minus_one b) k))

-- both operands are sound at each status of a call whose operands have no fault
pair_sound : (a b : Compressed ℤ) (status : ℤ) → (status ≡ pos 0 → IsSound a × IsSound b)
    → (status ≢ pos 0 → (e : Refusal) × (status ≡ number_of e) × IsFaultOfPair a b e)
    → FindsNoFault status → IsSound a × IsSound b
pair_sound a b status sound fault (inl zero) = sound zero
pair_sound a b status sound fault (inr (inl small)) =
    let found = fault (small_not_zero status small) in
    absurd (pair_finds_fault a b found.0 found.2 (subst FindsNoFault found.1 (inr (inl small))))
pair_sound a b status sound fault (inr (inr singular)) =
    let six : 6 ≢ 0 = omega arith in
    let found = fault (λ zero. six (ap nat_abs (sym singular ∙ zero))) in
    absurd (pair_finds_fault a b found.0 found.2 (subst FindsNoFault found.1 (inr (inr singular))))

-- the contract of a call whose sum is merged into output arrays that are long enough
pub sum_answered : {R : CommRing} (p : Plain R) (a b : Compressed ℤ) (before after : OutputArrays)
    (status : ℤ) → (status ≡ pos 0 → HoldsRows p after)
    → (status ≡ pos 0 → KeepsRest p.rows before after)
    → (status ≡ pos 0 → IsSound a × IsSound b) → (status ≢ pos 0 → after ≡ before)
    → (status ≢ pos 0 → (e : Refusal) × (status ≡ number_of e) × IsFaultOfPair a b e)
    → WritesRows (IsSound a × IsSound b) (IsFaultOfPair a b) p before after status
sum_answered p a b before after status written rest sound untouched fault = record {
  written = written;
  rest = rest;
  sound = pair_sound a b status sound fault;
  untouched = λ h. (
    ap (λ (r : OutputArrays). output_arrays r.offsets r.indices r.values before.places) (untouched h),
    λ _. ap (λ (r : OutputArrays). r.places) (untouched h),
  );
  needed = λ small.
      let found = fault (small_not_zero status small) in
      absurd (pair_finds_fault a b found.0 found.2 (subst FindsNoFault found.1 (inr (inl small))));
  refused = λ h.
      let found = fault h in
      (found.0, found.1, inl (inr found.2));
}

-- the contract of a sum of multiples after its scales and its status are replaced by equal numbers
pub seen_multiples : (R : CommRing) (a b : Compressed ℤ) {Sound : Type 0} {Fault : Refusal → Type 0}
    {s t alpha beta : ℤ} {before after : OutputArrays} {status seen : ℤ} → s ≡ alpha → t ≡ beta
    → seen ≡ status
    → WritesRows Sound Fault (plain_sum R (plain_scaled R (element_of R s) (plain_by_rows R a))
    (plain_scaled R (element_of R t) (plain_by_rows R b))) before after status
    → WritesRows Sound Fault (plain_sum R (plain_scaled R (element_of R alpha) (plain_by_rows R a))
    (plain_scaled R (element_of R beta) (plain_by_rows R b))) before after seen
seen_multiples R a b first second same ensured = seen_rows same (same_rows (λ k. plain_sum R
    (plain_scaled R (element_of R (first k)) (plain_by_rows R a))
    (plain_scaled R (element_of R (second k)) (plain_by_rows R b))) ensured)
