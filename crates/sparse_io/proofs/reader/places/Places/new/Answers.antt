use Rattle.std.proofs.Common.{◌≡◌, ℕ, refl, sym, ap, ◌∙◌}
use Rattle.sparse_parser.specs.declared.header.Format.{Format}
use Rattle.sparse_parser.specs.declared.header.Format.TheVariants.{Coordinate, Array}
use Rattle.sparse_parser.specs.declared.header.Symmetry.{Symmetry}
use Rattle.sparse_parser.specs.ArrayPlaces.{places_of}
use Rattle.sparse_io.specs.InnerPlaces.{places_left, columns_left}
use Rattle.sparse_io.proofs.PlaceLaws.{columns_all}
use Rattle.sparse_io.proofs.reader.places.Places.new.Goals as goal
use Rattle.sparse_io.proofs.reader.places.Places.new.Goals.{in-Coordinate, in-Array}

none_listed : (f : Format) (s : Symmetry) (rows cols all : ℕ) → f ≡ Coordinate → all ≡ 0
    → columns_left s rows all 0 ≡ places_of f s rows cols
none_listed f s rows cols all e none = rw (e, none) refl

columns : (f : Format) (s : Symmetry) (rows cols all : ℕ) → f ≡ Array → all ≡ cols
    → columns_left s rows all 0 ≡ places_of f s rows cols
columns f s rows cols all e same =
    columns_all s rows cols all same ∙ ap (λ (x : Format). places_of x s rows cols) (sym e)

pub returns : goal.returns
unfolding places_left
returns c = c.first_from-row.ensures.places ∙ elim c.match-format.branch [
  | in-Coordinate w ↦ none_listed c.args.format c.args.symmetry c.args.rows c.args.cols
      c.match-format.cols w.in-Coordinate.is w.cols-is
  | in-Array w ↦ columns c.args.format c.args.symmetry c.args.rows c.args.cols
      c.match-format.cols w.in-Array.is w.cols-is
]
