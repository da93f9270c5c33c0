use Rattle.std.proofs.Common.{◌≡◌, ℕ, List, [], ◌∷◌, ◌++◌, ◌+◌, ◌-◌, map, refl, ap, sym, ◌∙◌}
use Rattle.std.proofs.Common.{append_assoc, arith}
use Rattle.std.specs.List.{range_with_len}
use Rattle.std.proofs.lemmas.List.FromFn.{map-range_with_len_more}
use Rattle.sparse_parser.specs.ArrayPlaces.{first_row}
use Rattle.reference_models.proofs.texts.entries.push_column.Goals as goal

abbrev at : ℕ → ℕ → ℕ × ℕ
at col row = (row, col)

pub loop-number-preserved : goal.loop-number-preserved
loop-number-preserved c =
    let before = c.args.places.now.items in
    let first = c.first_row-first.result in
    let n = c.loop-number.number in
    let col = c.args.col in
    c.in_ok-push.ensures.items
    ∙ ap (λ (xs : List (ℕ × ℕ)). xs ++ at col (first + n) ∷ []) c.loop-number.invariant
    ∙ append_assoc before (map (at col) (range_with_len first n)) (at col (first + n) ∷ [])
    ∙ ap (λ (xs : List (ℕ × ℕ)). before ++ xs)
    (sym (map-range_with_len_more (at col) first n (first + n) refl))

pub returns : goal.returns
returns c =
    let n = c.loop-number.number in
    let all : n ≡ c.args.nrows - first_row c.args.symmetry c.args.col =
    omega (arith, c.saturating_sub-number-end.ensures, c.first_row-first.ensures) in
    c.loop-number.invariant
    ∙ ap (λ (k : ℕ). c.args.places.now.items ++ map (at c.args.col) (range_with_len k n))
    c.first_row-first.ensures
    ∙ ap (λ (k : ℕ). c.args.places.now.items ++ map (at c.args.col)
    (range_with_len (first_row c.args.symmetry c.args.col) k)) all
