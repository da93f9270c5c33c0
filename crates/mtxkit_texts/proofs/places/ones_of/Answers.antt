use Rattle.std.proofs.Common.{◌≡◌, All, sym, subst, ◌∙◌}
use Rattle.std.proofs.lemmas.List.Elements.{All-replicate}
use Rattle.mtxkit_texts.proofs.places.ones_of.Goals as goal

pub returns-clause-ones : goal.returns-clause-ones
returns-clause-ones g c =
    subst (All (λ v. g.T.Ring.value v ≡ g.T.Ring.ring.one))
    (sym (c.joined.ensures.values ∙ c.in_ok-ones.ensures))
    (All-replicate (λ v. g.T.Ring.value v ≡ g.T.Ring.ring.one) _ _ c.one.ensures)

pub returns-clause-entries : goal.returns-clause-entries
returns-clause-entries g c = rw c.joined.ensures.pattern c.in_ok-pattern.ensures
