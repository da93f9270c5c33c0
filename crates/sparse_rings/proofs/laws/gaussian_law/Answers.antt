use Rattle.sparse_rings.proofs.Norms.{norm-mul}
use Rattle.sparse_rings.proofs.RingMaps.{imaginary-square, real-map, conjugate-map}
use Rattle.sparse_rings.proofs.laws.gaussian_law.Goals as goal

pub returns-clause-unit : goal.returns-clause-unit
returns-clause-unit g c = imaginary-square g.T.Ring.ring

pub returns-clause-real : goal.returns-clause-real
returns-clause-real g c = real-map g.T.Ring.ring

pub returns-clause-conjugate : goal.returns-clause-conjugate
returns-clause-conjugate g c = conjugate-map g.T.Ring.ring

pub returns-clause-norm : goal.returns-clause-norm
returns-clause-norm g c = norm-mul g.T.Ring.ring
