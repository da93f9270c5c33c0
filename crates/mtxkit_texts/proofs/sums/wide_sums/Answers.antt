use Rattle.std.proofs.Common.{length, ap, sym, ◌∙◌}
use Rattle.std.proofs.lemmas.List.{length-map}
use Rattle.sparse_algebra.specs.WrappingValues.{w128_number}
use Rattle.sparse_coo_dense.specs.CooPlain.{plain_of_coo}
use Rattle.mtxkit_texts.specs.Loaded.{ring128, value128}
use Rattle.mtxkit_texts.proofs.WideLists.{wide-wrapped}
use Rattle.mtxkit_texts.proofs.sums.wide_sums.Goals as goal

pub with_values-requires : goal.with_values-requires
with_values-requires c =
    sym (length-map c.in_ok-values.values.items w128_number)
    ∙ ap length (c.in_ok-values.ensures ∙ c.values.ensures)
    ∙ length-map c.args.list.now.triplets (λ t. t.2)

pub returns-clause-sums : goal.returns-clause-sums
returns-clause-sums c =
    c.in_ok-convert_coo_csr.ensures.plain
    ∙ ap (plain_of_coo ring128 value128) c.in_ok-wide.ensures.list
    ∙ wide-wrapped c.args.list.now c.in_ok-values.values.items
    (c.in_ok-values.ensures ∙ c.values.ensures)
