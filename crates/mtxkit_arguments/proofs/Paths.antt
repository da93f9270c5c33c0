-- Paths by their numbers.
use Rattle.std.proofs.Common.{◌≡◌, ◌<◌, ◌≤◌, ◌≢◌, ◌-◌, ℕ, zero, suc, List, length, get_or, refl, sym, ap, ◌∙◌}
use Rattle.std.proofs.Common.{arith}
use Rattle.std.specs.Prelude.{slice_get, Option, Some, None, IfSome}
use Rattle.std.specs.List.{HoldsAt}
use Rattle.std.specs.Option.{option_map, option_copied, MatchOption}
use Rattle.std.proofs.lemmas.Option.{slice_get-map, slice_get_past, slice_get_read}
use denote.Ref.{Bor}
use Rattle.mtxkit_arguments.specs.Files.{path_at, paths}

-- the path with a number, counted from 1
pub path-at : (files : List (Bor (List ℕ))) (number : ℕ) → number ≢ 0
    → path_at (paths files) number ≡ option_map (λ path. path.now) (slice_get files (number - 1))
path-at files zero some = absurd (some refl)
path-at files (suc n) some =
    let less : n ≡ suc n - 1 = omega arith in
    slice_get-map (λ (file : Bor (List ℕ)). file.now) files n
    ∙ ap (λ k. option_map (λ (path : Bor (List ℕ)). path.now) (slice_get files k)) less

-- a copy of what a look-up finds
pub copied-at : (files : List (Bor (List ℕ))) (i : ℕ) (found : Option (Bor (Bor (List ℕ))))
    → IfSome found (λ x. x.now ≡ get_or files i x.now)
    → MatchOption found (length files ≤ i)
    (λ x. (i < length files) × HoldsAt {X = Bor (List ℕ)} (λ y. x.now ≡ y) files i)
    → option_copied found ≡ slice_get files i
copied-at files i None is within = sym (slice_get_past files i within)
copied-at files i (Some x) is within =
    sym (slice_get_read files (length files) i x.now refl within.0 is)
