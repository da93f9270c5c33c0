use Rattle.std.proofs.Common.{◌&&◌}
use Rattle.sparse_algebra.proofs.Cases.{and_both, and_parts}
use Rattle.sparse_algebra.proofs.PlainLemmas.{any_is}
use Rattle.sparse_compressed.specs.PlainOfLanes.{plain_of_rows}
use Rattle.sparse_laws.proofs.operations.product_places_law.Goals as goal

pub returns : goal.returns
returns g c = λ d a b sa sb fits places i j.
    let plain = plain_of_rows g.T.Ring.ring g.T.Ring.value in
    let left = c.stands_law.ensures.rows a sa in
    let right = c.stands_law.ensures.rows b sb in
    let any = any_is a.pattern.minor_dim (λ k. (plain a).has i k && (plain b).has k j) in (
      λ h.
          let s = (places i j).0 h in
          let first = (left.places i s.0).0 s.1 in
          any.1 (s.0, (left.within i s.0 first).1, and_both _ _ first ((right.places s.0 j).0 s.2)),
      λ h.
          let s = any.0 h in
          let both = and_parts _ _ s.2 in
          (places i j).1 (s.0, (left.places i s.0).1 both.0, (right.places s.0 j).1 both.1),
    )
