-- Compressed arrays determine their plain matrix: it has their shape, places and values, and no
-- other plain matrix has them.
use Rattle.std.proofs.Common.{◌≡◌, refl, ap, ◌∙◌, sym}
use Rattle.sparse_algebra.specs.Algebra.{CommRing}
use Rattle.sparse_algebra.specs.Plain.{Plain, plain_transpose}
use Rattle.sparse_algebra.proofs.PlainLaws.{proper_transpose, within_plain_of_triplets}
use Rattle.sparse_algebra.proofs.PlainLaws.{within_transpose, transpose_twice}
use Rattle.sparse_compressed.specs.Compressed.{Compressed, IsSound, lane_triplets}
use Rattle.sparse_compressed.specs.PlainOfLanes.{plain_of_rows, plain_of_cols}
use Rattle.sparse_compressed.specs.ArraysDeterminePlain.{HasLanesAsRows, HasLanesAsCols}
use Rattle.sparse_compressed.proofs.Arrays.{has_is_place, value_at_offset, proper_rows, plain_of_rows-from_places}
use Rattle.sparse_compressed.proofs.TripletBounds.{lane_triplets-inside}

module _ (R : CommRing) {T : Type 0} (f : T → R.Carrier) where
  module _ (m : Compressed T) (sound : IsSound m) where
    pub plain_of_rows-has_lanes : HasLanesAsRows R f m (plain_of_rows R f m)
    plain_of_rows-has_lanes = record {
      rows = refl;
      cols = refl;
      places = λ i j. let h = has_is_place R f m.pattern sound.valid m.values sound.count i
          j in (h.1, h.0);
      values = λ i j p z at. sym (value_at_offset R f m.pattern sound.valid m.values sound.count z
          i j p at);
      within = within_plain_of_triplets R f m.pattern.major_dim m.pattern.minor_dim
          (lane_triplets m) (lane_triplets-inside m sound);
      proper = proper_rows R f m;
    }

    pub plain_of_cols-has_lanes : HasLanesAsCols R f m (plain_of_cols R f m)
    plain_of_cols-has_lanes = record {
      rows = refl;
      cols = refl;
      places = λ i j. plain_of_rows-has_lanes.places j i;
      values = λ i j. plain_of_rows-has_lanes.values j i;
      within = within_transpose R (plain_of_rows R f m) plain_of_rows-has_lanes.within;
      proper = proper_transpose R (plain_of_rows R f m) plain_of_rows-has_lanes.proper;
    }

    pub plain_of_rows-unique : (z : T) (a : Plain R) → HasLanesAsRows R f m a → plain_of_rows R f m ≡ a
    plain_of_rows-unique z a has = plain_of_rows-from_places R f z m a sound has.proper has.rows has.cols has.places
        (λ i j p at. has.values i j p z at)

    pub plain_of_cols-unique : (z : T) (a : Plain R) → HasLanesAsCols R f m a → plain_of_cols R f m ≡ a
    plain_of_cols-unique z a has =
        let transposed : HasLanesAsRows R f m (plain_transpose R a) = record {
          rows = has.cols;
          cols = has.rows;
          places = λ i j. has.places j i;
          values = λ i j. has.values j i;
          within = within_transpose R a has.within;
          proper = proper_transpose R a has.proper;
        } in
        ap (plain_transpose R) (plain_of_rows-unique z (plain_transpose R a) transposed) ∙ transpose_twice R a
