use Rattle.std.proofs.Common.{◌++◌, codes, ap, ◌∙◌, append_assoc, string_bytes}
use Rattle.mtxkit_matrices.specs.FactLines.{count_line}
use Rattle.mtxkit_patterns.proofs.fill_lines.push_places.Goals as goal

pub returns : goal.returns
returns c =
    let s = c.args.counts in
    let old = string_bytes c.args.lines.now in
    let places = count_line (codes "places") s.places in
    let lower = count_line (codes "places of the lower triangle") s.lower in
    let factor = count_line (codes "places of the factor") s.factor in
    c.in_ok-push_count-3.ensures
    ∙ ap (λ xs. xs ++ factor) (c.in_ok-push_count-2.ensures
    ∙ ap (λ xs. xs ++ lower) c.in_ok-push_count.ensures)
    ∙ append_assoc (old ++ places) lower factor ∙ append_assoc old places (lower ++ factor)
