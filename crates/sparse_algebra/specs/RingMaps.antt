-- Ring homomorphisms, and plain matrices mapped entry by entry.
use Rattle.std.specs.Prelude.{◌≡◌}
use Rattle.sparse_algebra.specs.Algebra.{CommRing}
use Rattle.sparse_algebra.specs.Plain.{Plain}

-- h preserves zero, one, sums, products and negation
pub record IsRingMap (R S : CommRing) (h : R.Carrier → S.Carrier) : Type 0 where
  pub zero : h R.zero ≡ S.zero
  pub one : h R.one ≡ S.one
  pub add : (a b : R.Carrier) → h (R.add a b) ≡ S.add (h a) (h b)
  pub mul : (a b : R.Carrier) → h (R.mul a b) ≡ S.mul (h a) (h b)
  pub neg : (a : R.Carrier) → h (R.neg a) ≡ S.neg (h a)

-- the same places, with h applied to each value
abbrev pub plain_map : {R S : CommRing} → (R.Carrier → S.Carrier) → Plain R → Plain S
plain_map h a = record { rows = a.rows; cols = a.cols; has = a.has; value = λ i j. h (a.value i j) }
