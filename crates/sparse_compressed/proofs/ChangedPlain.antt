-- Negating or scaling the values of a compressed matrix in place negates or scales its plain
-- matrix.
use Rattle.std.proofs.Common.{◌≡◌, ℕ, ◌<◌, List, length, get_or, ap, ◌∙◌, refl, arith}
use Rattle.std.proofs.lemmas.List.{get_or_default}
use Rattle.sparse_algebra.specs.Algebra.{CommRing}
use Rattle.sparse_algebra.specs.Plain.{plain_negation, plain_scaled}
use Rattle.sparse_algebra.proofs.RingLemmas.{mul_zero, neg_zero}
use Rattle.sparse_compressed.specs.ChangedValues.{AreChanged}
use Rattle.sparse_compressed.specs.Compressed.{Compressed, compressed_of, IsOffset, IsSound}
use Rattle.sparse_compressed.specs.PlainOfLanes.{plain_of_rows}
use Rattle.sparse_compressed.proofs.Arrays.{offset_within}
use Rattle.sparse_compressed.proofs.ArraysDeterminePlain.{plain_of_rows-has_lanes, plain_of_rows-unique}

module _ (R : CommRing) {T : Type 0} (f : T → R.Carrier) where
  module _ (z : T) (m : Compressed T) (ws : List T) (sound : IsSound m) where
    abbrev now : Compressed T
    now = compressed_of m.pattern ws

    pub changed_sound : (g : R.Carrier → R.Carrier) → AreChanged f g z m.values ws → IsSound now
    changed_sound g h = record { valid = sound.valid; count = h.count ∙ sound.count }

    -- each new value represents the changed value of the plain matrix
    changed_at : (g : R.Carrier → R.Carrier) → AreChanged f g z m.values ws → (i j p : ℕ) (y : T)
        → IsOffset m.pattern i j p → f (get_or ws p y) ≡ g ((plain_of_rows R f m).value i j)
    changed_at g h i j p y at =
        let within : p < length m.values = omega
        (arith, offset_within m.pattern sound.valid i j p at, sound.count) in
        ap f (get_or_default ws p y z (omega (arith, h.count))) ∙ h.each p within
        ∙ ap g ((plain_of_rows-has_lanes R f m sound).values i j p z at)

    pub negated : AreChanged f R.neg z m.values ws
        → plain_of_rows R f now ≡ plain_negation R (plain_of_rows R f m)
    negated h =
        let was = plain_of_rows-has_lanes R f m sound in
        plain_of_rows-unique R f now (changed_sound R.neg h) z (plain_negation R (plain_of_rows R f m))
        (record {
          rows = refl;
          cols = refl;
          places = was.places;
          values = changed_at R.neg h;
          within = was.within;
          proper = λ i j no. ap R.neg (was.proper i j no) ∙ neg_zero R;
        })

    pub scaled : (s : R.Carrier) → AreChanged f (R.mul s) z m.values ws
        → plain_of_rows R f now ≡ plain_scaled R s (plain_of_rows R f m)
    scaled s h =
        let was = plain_of_rows-has_lanes R f m sound in
        plain_of_rows-unique R f now (changed_sound (R.mul s) h) z (plain_scaled R s (plain_of_rows R f m))
        (record {
          rows = refl;
          cols = refl;
          places = was.places;
          values = changed_at (R.mul s) h;
          within = was.within;
          proper = λ i j no. ap (R.mul s) (was.proper i j no) ∙ mul_zero R s;
        })
