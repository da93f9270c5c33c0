-- The ring elements that dual numbers, Gaussian numbers and pairs represent; f and g map their parts
-- to the elements that those represent.
use Rattle.sparse_rings.specs.declared.dual.Dual.{Dual}
use Rattle.sparse_rings.specs.declared.gaussian.Gaussian.{Gaussian}
use Rattle.sparse_rings.specs.declared.pair.Pair.{Pair}

abbrev pub dual_value : {T C : Type 0} → (T → C) → Dual T → C × C
dual_value f x = (f x.number, f x.derivative)

abbrev pub gaussian_value : {T C : Type 0} → (T → C) → Gaussian T → C × C
gaussian_value f x = (f x.real, f x.imaginary)

abbrev pub pair_value : {A B C D : Type 0} → (A → C) → (B → D) → Pair A B → C × D
pair_value f g x = (f x.first, g x.second)
