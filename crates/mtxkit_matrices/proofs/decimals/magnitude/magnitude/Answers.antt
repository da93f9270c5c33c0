use Rattle.std.proofs.Common.{◌≢◌, ℕ, sym, subst, ◌∙◌, arith}
use Rattle.std.specs.Prelude.{IfErr}
use Rattle.std.proofs.lemmas.Bool.{eqb-true, eqb-false}
use Rattle.mtxkit_matrices.specs.InnerDigits.{IsTrimmed}
use Rattle.mtxkit_matrices.specs.InnerPowers.{HasNoMagnitude}
use Rattle.mtxkit_matrices.proofs.Magnitudes.{zero_magnitude, no_extreme}
use Rattle.mtxkit_matrices.proofs.decimals.magnitude.magnitude.Goals as goal
use Rattle.mtxkit_matrices.proofs.decimals.magnitude.magnitude.Goals.{Else-is_zero}

pub returns-then-is_zero-clause-value : goal.returns-then-is_zero-clause-value
returns-then-is_zero-clause-value c = λ total size t p.
    zero_magnitude t c.args.behind c.args.scale c.args.power.is_negative size
    (eqb-true t.value 0 (sym (c.is_zero.ensures t.value t.known) ∙ c.if-is_zero.true))

some : (c : Else-is_zero) (total : ℕ)
    (t : IsTrimmed total c.args.digits.part c.args.digits.zeros) → t.value ≢ 0
some c total t =
    eqb-false t.value 0 (sym (c.is_zero.ensures t.value t.known) ∙ c.if-is_zero.false)

pub returns-in-Some-clause-refused : goal.returns-in-Some-clause-refused
returns-in-Some-clause-refused c = λ total size t p.
    let known = rw c.in-Some.is at p in
    subst (λ (n : ℕ). IfErr c.shifted.result (λ why. HasNoMagnitude why total c.args.behind
    c.args.scale c.args.power.is_negative n)) known.1
    (c.shifted.ensures.refused total t
    (some (goal.at.returns-in-Some-clause-refused c).Else-is_zero total t))

pub returns-in-None-clause-refused : goal.returns-in-None-clause-refused
returns-in-None-clause-refused c = λ total size t p.
    rw c.extreme.ensures (no_extreme t c.args.behind c.args.scale c.args.power.is_negative size
    (some (goal.at.returns-in-None-clause-refused c).Else-is_zero total t) c.requires.zeros
    c.requires.behind (omega arith) (rw c.in-None.is at p))
