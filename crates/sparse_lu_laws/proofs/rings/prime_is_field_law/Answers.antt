use Rattle.sparse_lu_laws.proofs.PrimeFields.{prime-field}
use Rattle.sparse_lu_laws.proofs.rings.prime_is_field_law.Goals as goal

pub returns : goal.returns
returns c = prime-field
