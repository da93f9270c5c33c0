use Rattle.std.proofs.Common.{arith}
use Rattle.mtxkit_matrices.proofs.Magnitudes.{no_fraction, raised_magnitude, no_raised}
use Rattle.mtxkit_matrices.proofs.decimals.magnitude.shifted.Goals as goal

pub returns-then-gain-loss-clause-refused : goal.returns-then-gain-loss-clause-refused
returns-then-gain-loss-clause-refused c = λ total t some.
    no_fraction t c.args.behind c.args.scale _ c.args.is_negative c.args.size some (omega arith)
    (omega arith) c.raised_scale.result c.raised_scale.ensures

pub returns-clause-value : goal.returns-clause-value
returns-clause-value c = λ total t.
    raised_magnitude t c.args.behind c.args.scale c.args.is_negative c.args.size _
    (omega arith) c.raised_part.result (c.raised_part.ensures t.value t.known)

pub returns-clause-refused : goal.returns-clause-refused
returns-clause-refused c = λ total t some.
    no_raised t c.args.behind c.args.scale c.args.is_negative c.args.size _ (omega arith)
    c.raised_part.result (c.raised_part.ensures t.value t.known)
