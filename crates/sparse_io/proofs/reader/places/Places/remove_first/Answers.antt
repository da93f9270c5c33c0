use Rattle.std.proofs.Common.{rules, ◌<◌, length, ◌∙◌}
use Rattle.sparse_io.specs.InnerPlaces.{places_left}
use Rattle.sparse_io.proofs.PlaceLaws.{left_some, left_next, left_column}
use Rattle.sparse_io.proofs.reader.places.Places.remove_first.Goals as goal

pub overflow_add-self : goal.overflow_add-self
unfolding places_left
overflow_add-self c =
    let p = c.args.self.now in
    let some : 0 < length (places_left p) = search rules in
    let inside = p.in_array (left_some p.symmetry p.rows p.cols p.row p.col some) in
    search rules

pub overflow_add-next : goal.overflow_add-next
unfolding places_left
overflow_add-next c =
    let p = c.args.self.now in
    let some : 0 < length (places_left p) = search rules in
    let lt = left_some p.symmetry p.rows p.cols p.row p.col some in
    search rules

pub returns-then-self : goal.returns-then-self
unfolding places_left
returns-then-self c =
    let p = c.args.self.now in
    let some : 0 < length (places_left p) = search rules in
    let lt = left_some p.symmetry p.rows p.cols p.row p.col some in
    c.first_from-row.ensures.places
    ∙ left_column p.symmetry p.rows p.cols p.row p.col lt (p.in_array lt) c.if-self.true

pub returns-else-self : goal.returns-else-self
unfolding places_left
returns-else-self c =
    let p = c.args.self.now in
    let some : 0 < length (places_left p) = search rules in
    let lt = left_some p.symmetry p.rows p.cols p.row p.col some in
    left_next p.symmetry p.rows p.cols p.row p.col lt (p.in_array lt)
