use Rattle.std.proofs.Common.{ap, ◌∙◌}
use Rattle.sparse_parser.specs.InnerReading.{written_of}
use Rattle.reference_models.specs.Texts.{seen, listed_as}
use Rattle.reference_models.specs.InnerTexts.{lines_in}
use Rattle.reference_models.proofs.TextMeanings.{means_from}
use Rattle.reference_models.proofs.texts.meaning.Goals as goal

pub returns : goal.returns
returns g c =
    means_from g.T.MatrixMarketScalar.scalar (λ r. seen (listed_as g.T.MatrixMarketScalar.value) r)
    c.args.text.now (lines_in c.deref.result.now) c.document.result
    (ap lines_in c.deref.ensures.value ∙ c.in_ok-lines.ensures
    ∙ ap written_of c.as_bytes.ensures.value)
    c.document.ensures
