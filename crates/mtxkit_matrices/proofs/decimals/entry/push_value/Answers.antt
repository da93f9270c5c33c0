use Rattle.std.proofs.Common.{[]}
use Rattle.sparse_parser.specs.declared.header.Format.TheVariants.{Array}
use Rattle.mtxkit_matrices.proofs.ScaleRefusals.{array_entry, value_failed}
use Rattle.mtxkit_matrices.proofs.decimals.entry.push_value.Goals as goal

pub returns-in-Err-clause-refused : goal.returns-in-Err-clause-refused
returns-in-Err-clause-refused c =
    let are = c.in-Some.ensures.0 in
    value_failed c.args.scale c.args.number Array _ [] c.in-Some.value.now are
    (array_entry _ _ are c.in-Some.ensures.1) _ c.in-Err.ensures.refused
