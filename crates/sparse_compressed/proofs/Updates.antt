-- The plain matrix of a compressed matrix whose values are replaced.
use Rattle.std.proofs.Common.{◌≡◌, ℕ, false, List, length, get_or, ap, ◌∙◌, refl, arith}
use Rattle.std.proofs.lemmas.List.{get_or_default}
use Rattle.sparse_algebra.specs.Algebra.{CommRing}
use Rattle.sparse_compressed.specs.Compressed.{Compressed, compressed_of, IsOffset, IsSound}
use Rattle.sparse_compressed.specs.PlainOfLanes.{plain_of_rows}
use Rattle.sparse_compressed.proofs.Arrays.{offset_within}
use Rattle.sparse_compressed.proofs.ArraysDeterminePlain.{plain_of_rows-has_lanes, plain_of_rows-unique}

-- if each new value represents `value i j` at its entry (i, j), the plain matrix has the values
-- `value`
pub updated : (R : CommRing) {T : Type 0} (f : T → R.Carrier) (z : T) (m : Compressed T)
    (ws : List T) (value : ℕ → ℕ → R.Carrier)
    → IsSound m → length ws ≡ length m.values
    → ((i j : ℕ) → (plain_of_rows R f m).has i j ≡ false → value i j ≡ R.zero)
    → ((i j p : ℕ) → IsOffset m.pattern i j p → f (get_or ws p z) ≡ value i j)
    → plain_of_rows R f (compressed_of m.pattern ws) ≡ record {
      rows = m.pattern.major_dim;
      cols = m.pattern.minor_dim;
      has = (plain_of_rows R f m).has;
      value = value;
    }
updated R f z m ws value sound long proper values =
    let was = plain_of_rows-has_lanes R f m sound in
    plain_of_rows-unique R f (compressed_of m.pattern ws)
    (record { valid = sound.valid; count = long ∙ sound.count }) z
    (record {
      rows = m.pattern.major_dim;
      cols = m.pattern.minor_dim;
      has =
          (plain_of_rows R f m).has;
      value = value;
    }) (record {
      rows = refl;
      cols = refl;
      places = was.places;
      values = λ i j p y at. ap f (get_or_default ws p y z
          (omega (arith, long, offset_within m.pattern sound.valid i j p at, sound.count)))
          ∙ values i j p at;
      within = was.within;
      proper = proper;
    })
