-- Lists that gain values at their end. The proofs are laws that an impl has to give.
use Rattle.std.specs.Prelude.{◌≡◌, List, [], ◌++◌}
use Rattle.std.proofs.Common.{append_assoc, ap, sym, ◌∙◌}
use Rattle.std.proofs.lemmas.List.{append-nil}

-- the list has gained values at its end
pub record IsExtended {T : Type 0} (old new : List T) : Type 0 where
  pub values : List T
  pub pushed : new ≡ old ++ values

module _ {T : Type 0} where
  pub extended_none : (xs : List T) → IsExtended xs xs
  extended_none xs = record { values = []; pushed = sym (append-nil xs) }

  pub extended_then : {xs ys zs : List T} → IsExtended xs ys → IsExtended ys zs
      → IsExtended xs zs
  extended_then {xs} first second = record {
    values = first.values ++ second.values;
    pushed = second.pushed ∙ ap (λ l. l ++ second.values) first.pushed
        ∙ append_assoc xs first.values second.values;
  }
