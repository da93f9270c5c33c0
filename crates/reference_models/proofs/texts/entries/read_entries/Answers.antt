use Rattle.std.proofs.Common.{ℕ, Option, [], ◌+◌, ap, map, sym, ◌∙◌}
use Rattle.std.proofs.Common.{get_or}
use Rattle.std.proofs.lemmas.List.{map-append}
use Rattle.sparse_parser.specs.Meaning.{value_triplet, triplets_of}
use Rattle.reference_models.specs.InnerTexts.{texts, lines_in, both_of}
use Rattle.reference_models.proofs.TextEntries.{prefixed, line_read, line_refused}
use Rattle.reference_models.proofs.TextEntries.{none_left, left_from}
use Rattle.reference_models.proofs.TextLines.{words_at, lines_long}
use Rattle.reference_models.proofs.texts.entries.read_entries.Goals as goal

pub returns-in-Err : goal.returns-in-Err
returns-in-Err g c =
    let S = g.T.MatrixMarketScalar.scalar in
    let h = c.args.header in
    let places = c.args.places.now in
    let lines = c.args.lines.now in
    let i = c.loop-at.at in
    let line = c.index-lines-at.result in
    let is = ap (λ (p : Option (ℕ × ℕ)). triplets_of S h p (get_or (lines_in lines) i []))
    (sym c.place_at.ensures)
    ∙ ap (triplets_of S h c.place_at.result)
    (words_at lines i line [] c.loop-at-test.true c.index-lines-at.is
    ∙ sym (ap texts c.deref.ensures.value))
    ∙ sym c.in-Err.ensures in
    line_refused S h places (lines_in lines) i
    (map (value_triplet g.T.MatrixMarketScalar.value) c.loop-at.list.items) c.in-Err.kind
    (lines_long lines i c.loop-at-test.true) is
    ∙ c.loop-at.invariant

pub loop-at-preserved : goal.loop-at-preserved
loop-at-preserved g c =
    let S = g.T.MatrixMarketScalar.scalar in
    let value = value_triplet g.T.MatrixMarketScalar.value in
    let h = c.args.header in
    let places = c.args.places.now in
    let lines = c.args.lines.now in
    let i = c.loop-at.at in
    let line = c.index-lines-at.result in
    let is = ap (λ (p : Option (ℕ × ℕ)). triplets_of S h p (get_or (lines_in lines) i []))
    (sym c.place_at.ensures)
    ∙ ap (triplets_of S h c.place_at.result)
    (words_at lines i line [] c.loop-at-test.true c.index-lines-at.is
    ∙ sym (ap texts c.deref.ensures.value))
    ∙ sym c.in-Ok.ensures in
    ap (λ ts. prefixed ts (left_from S h places (lines_in lines) (i + 1)))
    (ap (map value) c.in_ok-push_both-in-Ok.ensures ∙ map-append value c.loop-at.list.items
    (both_of c.in-Ok.entry))
    ∙ line_read S h places (lines_in lines) i (map value c.loop-at.list.items)
    (map value (both_of c.in-Ok.entry)) (lines_long lines i c.loop-at-test.true) is
    ∙ c.loop-at.invariant

pub returns : goal.returns
returns g c =
    none_left g.T.MatrixMarketScalar.scalar c.args.header c.args.places.now c.args.lines.now
    c.loop-at.at (map (value_triplet g.T.MatrixMarketScalar.value) c.loop-at.list.items)
    c.loop-at-test.false
    ∙ c.loop-at.invariant
