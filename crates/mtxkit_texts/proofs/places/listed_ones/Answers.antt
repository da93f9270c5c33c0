use Rattle.std.proofs.Common.{length, ap, ◌∙◌}
use Rattle.std.proofs.lemmas.List.{length-replicate}
use Rattle.std.proofs.lemmas.Result.{IfOk-weaker}
use Rattle.std.specs.List.{list_any}
use Rattle.sparse_algebra.specs.Plain.{is_at}
use Rattle.sparse_algebra.specs.declared.scalar.wrapping.W64.{W64}
use Rattle.sparse_coo_dense.specs.Coo.{Coo}
use Rattle.mtxkit_texts.proofs.ListedEntries.{same_places}
use Rattle.mtxkit_texts.proofs.places.listed_ones.Goals as goal

pub with_values-requires : goal.with_values-requires
with_values-requires c =
    ap length c.in_ok-ones.ensures ∙ length-replicate c.nnz.result c.new.result ∙ c.nnz.ensures

pub returns-clause-entries : goal.returns-clause-entries
returns-clause-entries c =
    let ts = c.args.places.now.triplets in
    let vs = c.in_ok-ones.ones.items in
    let same = ap length c.in_ok-ones.ensures ∙ length-replicate c.nnz.result c.new.result
    ∙ c.nnz.ensures in
    IfOk-weaker c.with_values.result _ _
    (λ m is i j. ap (λ (l : Coo W64). list_any (is_at i j) l.triplets) is
    ∙ same_places i j ts vs same) c.with_values.ensures.list
