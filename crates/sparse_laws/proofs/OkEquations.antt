-- Equations of the value of a call that returns Ok, and the equation of plain matrices that they
-- use.
use Rattle.std.proofs.Common.{◌≡◌, ap, sym, ◌∙◌, refl}
use Rattle.std.specs.Prelude.{Result, Ok, Err, IfOk}
use Rattle.sparse_algebra.specs.Algebra.{CommRing}
use Rattle.sparse_algebra.specs.Plain.{Plain, plain_negation}
use Rattle.sparse_algebra.proofs.PlainLemmas.{same_plain}
use Rattle.sparse_algebra.proofs.RingLemmas.{neg_unique}

-- a value at Ok that equals y equals z, if y and z are equal
pub ok_further : {X Y E : Type 0} (f : X → Y) (r : Result X E) {y z : Y} → y ≡ z
    → IfOk r (λ x. f x ≡ y) → IfOk r (λ x. f x ≡ z)
ok_further f (Ok x) e h = h ∙ e
ok_further f (Err x) e h = tt

-- a value at Ok that equals op p y equals op q z, if p equals q and y equals z
pub ok_of_equals : {X Y E : Type 0} (f : X → Y) (op : Y → Y → Y) (r : Result X E) {p q y z : Y}
    → p ≡ q → y ≡ z → IfOk r (λ x. f x ≡ op p y) → IfOk r (λ x. f x ≡ op q z)
ok_of_equals f op r {q = q} {y} e e' = ok_further f r (ap (λ p. op p y) e ∙ ap (op q) e')

pub negation_twice : (R : CommRing) (a : Plain R) → plain_negation R (plain_negation R a) ≡ a
negation_twice R a = same_plain (plain_negation R (plain_negation R a)) a refl refl (λ i j. refl)
    (λ i j. sym (neg_unique R (R.neg (a.value i j)) (a.value i j)
    (R.laws.add_comm (R.neg (a.value i j)) (a.value i j) ∙ R.laws.add_neg (a.value i j))))
