-- The rules that the faults of the private enum `TripletFault` violate.
use Rattle.sparse_coo_dense.specs.TripletFaults.{TripletRule}
use Rattle.sparse_coo_dense.specs.TripletFaults as at
use Rattle.sparse_coo_dense.specs.declared.coo.triplet_fault.TripletFault.{TripletFault}
use Rattle.sparse_coo_dense.specs.declared.coo.triplet_fault.TripletFault.TheVariants.{ColCount}
use Rattle.sparse_coo_dense.specs.declared.coo.triplet_fault.TripletFault.TheVariants.{ValueCount}
use Rattle.sparse_coo_dense.specs.declared.coo.triplet_fault.TripletFault.TheVariants.{RowBounds}
use Rattle.sparse_coo_dense.specs.declared.coo.triplet_fault.TripletFault.TheVariants.{ColBounds}

abbrev pub rule_of : TripletFault → TripletRule
rule_of ColCount = at.ColCount
rule_of ValueCount = at.ValueCount
rule_of RowBounds = at.RowBounds
rule_of ColBounds = at.ColBounds
