use Rattle.std.proofs.Common.{map, set, sym, ap, ◌∙◌, arith}
use Rattle.std.proofs.lemmas.List.{map-set, length-map}
use Rattle.sparse_factor.proofs.Children.{number_at}
use Rattle.sparse_factor.proofs.Marks.{row_marked}
use Rattle.sparse_factor.proofs.factorization.columns.added.merge_row.Goals as goal

pub returns-then-get-mark-clause-marked : goal.returns-then-get-mark-clause-marked
returns-then-get-mark-clause-marked g c =
    let f = g.C.Count.number in
    let marks = c.args.marks.now in
    let row = c.args.row in
    let read = number_at f marks row c.requires.inside c.index-marks-row.is c.get.ensures in
    let written = map-set f marks row c.of.result ∙ ap (set (map f marks) row) c.of.ensures in
    rw (written, c.push_reserved.ensures.items)
    (row_marked row c.requires.marked (omega (arith, length-map marks f, c.requires.inside))
    (λ e. c.if-get-mark.true (read ∙ e)))

pub returns-else-get-mark-clause-added : goal.returns-else-get-mark-clause-added
returns-else-get-mark-clause-added g c =
    let read = number_at g.C.Count.number c.args.marks.now c.args.row c.requires.inside
    c.index-marks-row.is c.get.ensures in
    (c.requires.marked.same c.args.row).0 (sym read ∙ c.if-get-mark.false)
