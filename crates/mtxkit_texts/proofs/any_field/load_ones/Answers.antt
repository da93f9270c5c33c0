use Rattle.std.proofs.Common.{subst, sym, inr}
use Rattle.std.proofs.lemmas.Result.{IfOk-weaker, IfErr-weaker}
use Rattle.mtxkit_texts.specs.Ones.{AreOnesOf}
use Rattle.mtxkit_texts.proofs.UnsupportedTexts.{ones_meant, ones_refused}
use Rattle.mtxkit_texts.proofs.any_field.load_ones.Goals as goal
use Rattle.mtxkit_texts.proofs.any_field.load_ones.Goals.{After-as_str}

ones : (c : After-as_str) → AreOnesOf c.args.text.now c.as_str.result.now
ones c = subst (AreOnesOf c.args.text.now) (sym c.as_str.ensures.value) c.in_ok-ones.ensures

pub returns-clause-meant : goal.returns-clause-meant
returns-clause-meant c =
    IfOk-weaker c.load.result _ _
    (λ l m. ones_meant _ _ c.requires (ones (goal.at.returns-clause-meant c).After-as_str) m)
    c.load.ensures.meant

pub returns-clause-refused : goal.returns-clause-refused
returns-clause-refused c =
    IfErr-weaker c.load.result _ _
    (λ e is. inr (ones_refused _ _ c.requires
    (ones (goal.at.returns-clause-refused c).After-as_str) c.args.number e is))
    c.load.ensures.refused
