use Rattle.std.proofs.Common.{◌≡◌, ap, sym, subst, ◌∙◌}
use Rattle.std.specs.Prelude.{IfOk}
use Rattle.sparse_algebra.specs.Plain.{Plain, plain_sum}
use Rattle.sparse_compressed.specs.PlainOfLanes.{plain_of_cols}
use Rattle.sparse_sums.proofs.scaled.add_scaled_csc.Goals as goal

pub add_csc-requires : goal.add_csc-requires
add_csc-requires g c =
    let first = c.in_ok-left.ensures in
    let second = c.in_ok-right.ensures in
    record {
      rows = ap (λ p. p.rows) first ∙ c.requires.rows ∙ sym (ap (λ p. p.rows) second);
      cols = ap (λ p. p.cols) first ∙ c.requires.cols ∙ sym (ap (λ p. p.cols) second);
    }

pub returns : goal.returns
returns g c =
    let R = g.T.Ring.ring in
    subst (λ (p : Plain R × Plain R). IfOk c.add_csc.result
    (λ m. plain_of_cols R g.T.Ring.value m ≡ plain_sum R p.0 p.1))
    (λ k. (c.in_ok-left.ensures k, c.in_ok-right.ensures k)) c.add_csc.ensures
