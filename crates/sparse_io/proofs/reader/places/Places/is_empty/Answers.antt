use Rattle.sparse_io.specs.InnerPlaces.{places_left}
use Rattle.sparse_io.proofs.PlaceLaws.{left_none}
use Rattle.sparse_io.proofs.reader.places.Places.is_empty.Goals as goal

pub returns : goal.returns
unfolding places_left
returns c =
    let p = c.args.self.now in left_none p.symmetry p.rows p.cols p.row p.col p.in_array
