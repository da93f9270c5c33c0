use Rattle.std.proofs.Common.{sym, ◌∙◌, inr}
use Rattle.std.proofs.lemmas.Result.{IfOk-at_ok, IfErr-at_err}
use Rattle.mtxkit_matrices.proofs.WrittenLines.{coordinate_line, array_line}
use Rattle.mtxkit_matrices.proofs.decimals.entry.push_entry.Goals as goal
use Rattle.mtxkit_matrices.proofs.decimals.entry.push_entry.Goals.{in-Coordinate, in-Array}

pub returns-in-Ok-clause-written : goal.returns-in-Ok-clause-written
returns-in-Ok-clause-written c = elim c.match-header.branch [
  | in-Coordinate w ↦ rw w.written-is (coordinate_line c.args.header c.args.line.now
      w.in-Coordinate.is c.requires.content
      (IfOk-at_ok _ (sym w.pushed-is ∙ c.in-Ok.is) w.push_coordinate-pushed.ensures.written))
  | in-Array w ↦ rw w.written-is (array_line c.args.header c.args.line.now w.in-Array.is
      c.requires.content
      (IfOk-at_ok _ (sym w.pushed-is ∙ c.in-Ok.is) w.push_value-pushed.ensures.written))
]

pub returns-in-Err-clause-refused : goal.returns-in-Err-clause-refused
returns-in-Err-clause-refused c = inr (
  c.requires,
  elim c.match-header.branch [
    | in-Coordinate w ↦ rw w.in-Coordinate.is
        (IfErr-at_err _ (sym w.pushed-is ∙ c.in-Err.is) w.push_coordinate-pushed.ensures.refused)
    | in-Array w ↦ rw w.in-Array.is
        (IfErr-at_err _ (sym w.pushed-is ∙ c.in-Err.is) w.push_value-pushed.ensures.refused)
  ],
)
