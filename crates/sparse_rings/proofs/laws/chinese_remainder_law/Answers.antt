use Rattle.sparse_rings.proofs.Chinese.{chinese-one_to_one, chinese-onto}
use Rattle.sparse_rings.proofs.RingMaps.{residue_pair-map}
use Rattle.sparse_rings.proofs.laws.chinese_remainder_law.Goals as goal

pub returns-clause-map : goal.returns-clause-map
returns-clause-map g c = residue_pair-map g.row.M g.row.N

pub returns-clause-one_to_one : goal.returns-clause-one_to_one
returns-clause-one_to_one g c = chinese-one_to_one g.row.M g.row.N

pub returns-clause-onto : goal.returns-clause-onto
returns-clause-onto g c = chinese-onto g.row.M g.row.N
