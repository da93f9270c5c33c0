-- The entries of a row of a dense matrix, as every n-th element of its values.
use Rattle.std.proofs.Common.{◌≡◌, ℕ, ◌+◌, ◌-◌, ◌*◌, List, length, get_or, take, drop, ap}
use Rattle.std.proofs.Common.{◌∙◌, arith}
use Rattle.std.proofs.lemmas.List.{get_or-drop, take_rest}

-- element k * n of the list from s on is element k * n + s of the list
pub from_start : {X : Type 0} (xs : List X) (n j k s : ℕ) (z : X) → s ≡ j
    → get_or (take (length xs - s) (drop s xs)) (k * n) z ≡ get_or xs (k * n + j) z
from_start xs n j k s z e =
    let at : s + k * n ≡ k * n + j = omega (arith, e) in
    ap (λ l. get_or l (k * n) z) (take_rest xs s) ∙ get_or-drop s xs (k * n) z
    ∙ ap (λ p. get_or xs p z) at
