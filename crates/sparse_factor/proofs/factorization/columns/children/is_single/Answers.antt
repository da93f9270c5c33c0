use Rattle.std.proofs.Common.{◌≡◌, suc, ◌+◌, ◌-◌, inl, inr, sym, ◌∙◌, arith}
use Rattle.std.proofs.lemmas.Bool.{eqb-true}
use Rattle.sparse_factor.proofs.Children.{link_at, IsOnList-cases, IsOnList-none}
use Rattle.sparse_factor.proofs.factorization.columns.children.is_single.Goals as goal

pub returns-else-first-eq0 : goal.returns-else-first-eq0
returns-else-first-eq0 g c = λ yes k r.
    let first = c.args.first in
    let some = c.if-first-eq0.false in
    let first_is : first ≡ suc (first - 1) = omega (arith, some) in
    let read = link_at g.C.Count.number c.args.nexts.now (first + 1) first some (omega arith)
    (omega (arith, c.requires)) c.index-nexts-first.is c.get.ensures in
    elim (IsOnList-cases r (first - 1) first_is) [
      | inl e ↦ omega (arith, e, first_is)
      | inr more ↦ absurd (IsOnList-none more (sym read ∙ eqb-true c.get.result 0 yes))
    ]
