use Rattle.std.proofs.Common.{◌++◌, codes, ap, ◌∙◌, append_assoc, string_bytes}
use Rattle.std.specs.Fmt.{decimal}
use Rattle.mtxkit_facts.specs.Json.{first_member, number_member}
use Rattle.mtxkit_patterns.proofs.fill_json.push_places.Goals as goal

pub returns : goal.returns
returns c =
    let s = c.args.counts in
    let old = string_bytes c.args.json.now in
    let places = first_member (codes "places") (decimal s.places) in
    let lower = number_member (codes "places_of_the_lower_triangle") s.lower in
    let factor = number_member (codes "places_of_the_factor") s.factor in
    c.in_ok-push_number-2.ensures
    ∙ ap (λ xs. xs ++ factor) (c.in_ok-push_number.ensures
    ∙ ap (λ xs. xs ++ lower) c.in_ok-push_own_places.ensures)
    ∙ append_assoc (old ++ places) lower factor ∙ append_assoc old places (lower ++ factor)
