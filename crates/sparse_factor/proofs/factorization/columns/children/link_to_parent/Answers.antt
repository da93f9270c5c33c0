use Rattle.std.proofs.Common.{map, set, ap, ◌∙◌, refl}
use Rattle.std.proofs.lemmas.List.{map-set}
use Rattle.sparse_factor.proofs.Children.{number_at}
use Rattle.sparse_factor.proofs.factorization.columns.children.link_to_parent.Goals as goal

pub returns-then-parent-ne0-clause-firsts : goal.returns-then-parent-ne0-clause-firsts
returns-then-parent-ne0-clause-firsts g c = λ some.
    let f = g.C.Count.number in
    map-set f c.args.firsts.now c.args.parent c.of.result
    ∙ ap (set (map f c.args.firsts.now) c.args.parent) c.of.ensures

pub returns-then-parent-ne0-clause-nexts : goal.returns-then-parent-ne0-clause-nexts
returns-then-parent-ne0-clause-nexts g c = λ some.
    let f = g.C.Count.number in
    let first = c.index-firsts-parent in
    map-set f c.args.nexts.now c.args.column first.result
    ∙ ap (set (map f c.args.nexts.now) c.args.column)
    (number_at f c.args.firsts.now c.args.parent c.requires.parent first.is refl)
