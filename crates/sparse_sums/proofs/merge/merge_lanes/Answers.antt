use Rattle.std.proofs.Common.{◌≡◌, ◌++◌, drop, ap, ◌∙◌}
use Rattle.sparse_sums.proofs.Adding.{rest_added}
use Rattle.sparse_sums.proofs.merge.merge_lanes.Goals as goal

pub returns-clause-gained : goal.returns-clause-gained
returns-clause-gained g c =
    let R = g.T.Ring.ring in
    let f = g.T.Ring.value in
    let a = g.A.Operand.indices c.args.a.now in
    let av = g.A.Operand.elements R f c.args.a.now in
    let b = g.B.Operand.indices c.args.b.now in
    let bv = g.B.Operand.elements R f c.args.b.now in
    let old = c.args.output.now in
    let now = c.merge_until_end-p.new.output in
    let new = c.append_rest-2.new.output in
    let m = c.merge_until_end-p.ensures in
    let p = c.merge_until_end-p.result.0 in
    let q = c.merge_until_end-p.result.1 in
    let one = c.append_rest.ensures in
    let two = c.append_rest-2.ensures in
    let indices : g.O.Output.indices new ≡ (g.O.Output.indices now ++ drop p a) ++ drop q b =
    two.indices ∙ ap (λ l. l ++ drop q b) one.indices in
    let elements : g.O.Output.elements R f new
    ≡ (g.O.Output.elements R f now ++ drop p av) ++ drop q bv =
    two.elements ∙ ap (λ l. l ++ drop q bv) one.elements in
    rw (indices, elements) (rest_added R (g.O.Output.indices old) (g.O.Output.elements R f old)
    a av b bv c.requires.a_lane c.requires.b_lane (g.O.Output.indices now)
    (g.O.Output.elements R f now) p q m.first m.second m.end m.added)
