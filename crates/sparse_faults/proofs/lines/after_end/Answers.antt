use Rattle.std.proofs.Common.{◌≢◌, ◌<◌, get_or, length, sym, ◌∙◌, arith}
use Rattle.std.proofs.lemmas.Bool.{eqb-true, eqb-false}
use Rattle.sparse_faults.proofs.LineEnds.{ended_one, ended_two}
use Rattle.sparse_faults.proofs.lines.after_end.Goals as goal
use Rattle.sparse_faults.proofs.lines.after_end.Goals.{After-text_from-rest}

some : (c : After-text_from-rest) → 0 < length c.args.text.now
some c =
    let some : length c.args.text.now ≢ 0 =
    eqb-false _ _ (sym c.is_empty.ensures ∙ c.if-is_empty.false) in
    omega (arith, some)

pub returns-then-text-ne13 : goal.returns-then-text-ne13
returns-then-text-ne13 c =
    let other : get_or c.args.text.now 0 0 ≢ 13 = omega arith in
    ended_one c.args.text.now _ (some (goal.at.returns-then-text-ne13 c).After-text_from-rest)
    c.requires c.text_from-rest.ensures (λ p. other p.0)

pub returns-then-begins_with_lf : goal.returns-then-begins_with_lf
returns-then-begins_with_lf c =
    ended_two c.args.text.now c.text_from-rest.result.now _
    (omega arith) c.text_from-rest.ensures
    (eqb-true _ _ (sym c.begins_with_lf.ensures ∙ c.if-begins_with_lf.true)) c.text_from.ensures

pub returns-else-begins_with_lf : goal.returns-else-begins_with_lf
returns-else-begins_with_lf c =
    let other : get_or c.text_from-rest.result.now 0 0 ≢ 10 =
    eqb-false _ _ (sym c.begins_with_lf.ensures ∙ c.if-begins_with_lf.false) in
    ended_one c.args.text.now _ (some (goal.at.returns-else-begins_with_lf c).After-text_from-rest)
    c.requires c.text_from-rest.ensures (λ p. other p.1)
