-- Texts that mean one plain matrix over the integers modulo 2^64.
use Rattle.std.specs.Prelude.{◌≡◌, ℕ, ℤ, List, Ok}
use Rattle.std.specs.Int.{w64}
use Rattle.nalgebra_sparse.specs.Wrapping.{wrapping_ring, class_of}
use Rattle.nalgebra_sparse.specs.Plain.{Plain}
use Rattle.nalgebra_sparse.specs.Coo.{Coo}
use Rattle.nalgebra_sparse.specs.CooPlain.{plain_of_coo}
use Rattle.nalgebra_sparse.specs.Meaning.{Means}
use Rattle.nalgebra_sparse.specs.ScalarTypes.{wrapping_scalar}

-- the text means a list of triplets, and this is the list's plain matrix
abbrev pub MeansPlain : List ℕ → Plain (wrapping_ring w64) → Type 0
MeansPlain text plain = (m : Coo ℤ)
    × Means (wrapping_scalar w64) text (Ok m)
    × (plain_of_coo (wrapping_ring w64) (class_of w64) m ≡ plain)

-- both texts mean the same plain matrix
abbrev pub MeanOnePlain : List ℕ → List ℕ → Type 0
MeanOnePlain text other = (plain : Plain (wrapping_ring w64))
    × MeansPlain text plain
    × MeansPlain other plain
