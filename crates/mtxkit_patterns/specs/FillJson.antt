-- The object of `mtxkit fill --json`.
use Rattle.std.specs.Prelude.{ℕ, ◌-◌, List, ◌++◌, codes}
use Rattle.std.specs.Fmt.{decimal}
use Rattle.mtxkit_facts.specs.Json.{first_member, member, number_member, object_end}
use Rattle.mtxkit_patterns.specs.Fills.{ratio}
use Rattle.mtxkit_patterns.specs.declared.counts.FillCounts.{FillCounts}

abbrev pub place_members : FillCounts → List ℕ
place_members s = first_member (codes "places") (decimal s.places)
    ++ (number_member (codes "places_of_the_lower_triangle") s.lower
    ++ number_member (codes "places_of_the_factor") s.factor)

abbrev pub fill_members : FillCounts → List ℕ
fill_members s = number_member (codes "fill") (s.factor - s.lower)
    ++ member (codes "factor_to_lower_triangle") (ratio s.factor s.lower)

-- the members of the costs, and the end of the object
abbrev pub cost_members : FillCounts → List ℕ
cost_members s = number_member (codes "multiplications") s.products
    ++ (number_member (codes "longest_column") s.longest
    ++ (number_member (codes "height_of_the_elimination_tree") s.height ++ object_end))

-- the object, whose members are the lines of `fill_lines`
abbrev pub fill_json : FillCounts → List ℕ
fill_json s = place_members s ++ (fill_members s ++ cost_members s)
