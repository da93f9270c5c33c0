-- Arrays that are unchanged from an offset on.
use Rattle.std.proofs.Common.{◌≡◌, ℕ, ◌+◌, ◌-◌, ◌≤◌, List, drop, ap, sym, ◌∙◌, arith}
use Rattle.std.proofs.lemmas.List.{drop-drop}

-- an array that is unchanged from an offset on is unchanged from a later one on
pub unchanged_later : {T : Type 0} (n m : ℕ) (old new : List T) → n ≤ m → drop n new ≡ drop n old
    → drop m new ≡ drop m old
unchanged_later n m old new le same =
    let whole : n + (m - n) ≡ m = omega arith in
    ap (λ k. drop k new) (sym whole) ∙ sym (drop-drop (m - n) n new) ∙ ap (drop (m - n)) same
    ∙ drop-drop (m - n) n old ∙ ap (λ k. drop k old) whole
