-- The texts of matrices begin with their header lines.
use Rattle.std.proofs.Common.{◌≡◌, ℕ, List, ◌++◌, codes, refl}
use Rattle.sparse_coo_dense.specs.Coo.{Coo}
use Rattle.sparse_io.specs.Written.{heading_with, written_text_with, text_with}
use Rattle.sparse_io.specs.declared.banner.Banner.TheVariants.{MixedCase}
use Rattle.sparse_pattern.specs.Raw.{Raw}
use Rattle.mtxkit_texts.specs.Lower.{head}
use Rattle.mtxkit_texts.specs.PatternTexts.{pattern_text}

-- the text begins with the header line with this field and the symmetry `general`
abbrev pub Begins : List ℕ → List ℕ → Type 0
Begins name text = (rest : List ℕ) × (text ≡ head name (codes " general\n") ++ rest)

module _ {V : Type 0} (text : V → List ℕ) (m : Coo V) where
  pub begins-integer : Begins (codes "integer") (text_with MixedCase (codes "integer") text m)
  unfolding heading_with written_text_with
  begins-integer = (_, refl)

pub begins-pattern : (d : Raw) → Begins (codes "pattern") (pattern_text d)
unfolding heading_with
begins-pattern d = (_, refl)
