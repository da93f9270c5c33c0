use Rattle.std.proofs.Common.{◌≡◌, ◌++◌, ◌-◌, codes, ap, ◌∙◌, append_assoc, string_bytes}
use Rattle.mtxkit_matrices.specs.FactLines.{line, count_line}
use Rattle.mtxkit_patterns.specs.Fills.{place_lines, cost_lines, ratio}
use Rattle.mtxkit_patterns.proofs.fill_lines.lines_of.Goals as goal

pub returns : goal.returns
returns c =
    let s = c.args.counts in
    let places : string_bytes c.push_places.new.lines ≡ place_lines s =
    c.in_ok-push_places.ensures ∙ ap (λ xs. xs ++ place_lines s) c.new-lines.ensures.bytes in
    let more = count_line (codes "fill") (s.factor - s.lower) in
    let fill : string_bytes c.push_count.new.lines ≡ place_lines s ++ more =
    c.in_ok-push_count.ensures
    ∙ ap (λ xs. xs ++ count_line (codes "fill") c.fill_of.result) places
    ∙ ap (λ n. place_lines s ++ count_line (codes "fill") n) c.fill_of.ensures in
    let quotient : c.as_str.result.now ≡ ratio s.factor s.lower =
    c.as_str.ensures.value ∙ c.in_ok-ratio.ensures in
    let name = codes "factor to lower triangle" in
    let last = line name (ratio s.factor s.lower) in
    let middle : string_bytes c.push_line.new.lines ≡ (place_lines s ++ more) ++ last =
    c.in_ok-push_line.ensures ∙ ap (λ xs. xs ++ line name c.as_str.result.now) fill
    ∙ ap (λ q. (place_lines s ++ more) ++ line name q) quotient in
    c.in_ok-push_costs.ensures ∙ ap (λ xs. xs ++ cost_lines s) middle
    ∙ append_assoc (place_lines s ++ more) last (cost_lines s)
    ∙ append_assoc (place_lines s) more (last ++ cost_lines s)
