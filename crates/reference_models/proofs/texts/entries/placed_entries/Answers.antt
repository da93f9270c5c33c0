use Rattle.std.proofs.Common.{Ok, ap, map, sym, ◌∙◌}
use Rattle.std.proofs.lemmas.Bool.{eqb-true}
use Rattle.sparse_parser.specs.ArrayPlaces.{places_of}
use Rattle.sparse_parser.specs.Meaning.{value_triplet}
use Rattle.reference_models.proofs.TextEntries.{no_lines}
use Rattle.reference_models.proofs.texts.entries.placed_entries.Goals as goal

pub returns-then-is_empty : goal.returns-then-is_empty
returns-then-is_empty g c =
    ap (λ ts. Ok (map (value_triplet g.T.MatrixMarketScalar.value) ts)) c.new.ensures.items
    ∙ no_lines g.T.MatrixMarketScalar.scalar c.args.header
    (places_of c.args.header.format c.args.header.symmetry c.args.nrows c.args.ncols)
    c.args.lines.now (eqb-true _ _ (sym c.is_empty.ensures ∙ c.if-is_empty.true))
