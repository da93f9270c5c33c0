use Rattle.std.proofs.Common.{◌≡◌, ℕ, [], ◌∷◌, true, false, not, map, get_or, append_assoc, ap, sym}
use Rattle.std.proofs.Common.{◌∙◌, arith}
use Rattle.std.specs.List.{filter}
use Rattle.std.proofs.lemmas.List.{append-nil, get_or_default}
use Rattle.sparse_coo_dense.specs.Coo.{appended}
use Rattle.sparse_algebra.specs.Plain.{below}
use Rattle.sparse_convert.specs.FromDense.{differs_from}
use Rattle.sparse_convert.proofs.DenseLanes.{filter_map_next}
use Rattle.sparse_convert.proofs.serial.from_dense.push_column.Goals.{then-ne+in_ok-push, else-ne}
use Rattle.sparse_convert.proofs.serial.from_dense.push_column.Goals as goal

pub loop-i-preserved : goal.loop-i-preserved
loop-i-preserved g c =
    let E = g.T.PartialEq.eq in
    let z = g.T.Zero.zero_value in
    let T = g.row.T.Denot in
    let i = c.loop-i.i in
    let j = c.args.j in
    let column = c.args.column.now in
    let r = c.index-column-i.result in
    let line : ℕ → ℕ × ℕ × T = λ i. (i, j, get_or column i z) in
    let before = filter (differs_from E z) (map line (below i)) in
    let is : r ≡ get_or column i z = c.index-column-i.is
    ∙ get_or_default column i r z (omega arith) in
    let answer : not (E (get_or column i z) z) ≡ c.ne.result = ap (λ x. not (E x z)) (sym is)
    ∙ ap (λ x. not (E r x)) (sym c.zero.ensures) ∙ sym c.ne.ensures in
    elim c.if-ne.branch [
      | then-ne+in_ok-push w ↦
          let next = filter_map_next (differs_from E z) line i true (answer ∙ w.if-ne.true) in
          rw (w.coo-is, next) (w.in_ok-push.ensures.ok
          ∙ ap (λ m. appended m ((i, j, r) ∷ [])) c.loop-i.invariant
          ∙ ap (λ v. appended (appended c.args.coo.now before) ((i, j, v) ∷ [])) is
          ∙ ap (λ l. record c.args.coo.now { triplets = l })
          (append_assoc c.args.coo.now.triplets before (line i ∷ [])))
      | else-ne w ↦
          let next = filter_map_next (differs_from E z) line i false (answer ∙ w.if-ne.false)
          ∙ append-nil before in
          rw (w.coo-is, next) c.loop-i.invariant
    ]
