use Rattle.std.proofs.Common.{◌≡◌, ℕ, ◌↔◌, List, Result, Ok, Err, IfOk, ap, map-id, string_bytes, subst}
use Rattle.nalgebra_sparse.specs.Coo.{Coo, coo_of}
use Rattle.nalgebra_sparse.specs.Meaning.{Means, values_of}
use Rattle.nalgebra_sparse.specs.Raw.{Raw, IsEntry}
use Rattle.nalgebra_sparse.specs.ScalarTypes.{pattern_scalar}
use Rattle.mtx_commands.specs.Fills.{MeansPattern}
use Rattle.mtx_commands.specs.TripletPatterns.{HasTriplet}
use Rattle.mtx_commands.proofs.fill.pattern_in.Goals as goal

-- a pattern with the shape and the entries of the list that the text means
MeansPattern-from_list : {E : Type 0} (m : Coo (Unit {0})) (text : List ℕ)
    → Means pattern_scalar text (Ok (values_of (λ x. x) m)) → (r : Result Raw E)
    → IfOk r (λ p. p.major_dim ≡ m.ncols) → IfOk r (λ p. p.minor_dim ≡ m.nrows)
    → IfOk r (λ p. (i j : ℕ) → IsEntry p j i ↔ HasTriplet m i j) → IfOk r (MeansPattern text)
MeansPattern-from_list m text meant (Ok p) columns rows entries = record {
  list = m;
  meant = subst (λ (l : Coo (Unit {0})). Means pattern_scalar text (Ok l))
      (ap (coo_of m.nrows m.ncols) (map-id m.triplets)) meant;
  rows = rows;
  columns = columns;
  entries = entries;
}
MeansPattern-from_list m text meant (Err e) columns rows places = tt

pub returns-clause-meant : goal.returns-clause-meant
returns-clause-meant c =
    let made = c.square_pattern_of.ensures in
    MeansPattern-from_list c.in_ok-triplets.triplets (string_bytes c.args.text)
    c.in_ok-triplets.ensures.meant c.square_pattern_of.result made.columns made.rows made.entries
