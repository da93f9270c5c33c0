-- The first words of written texts.
use Rattle.std.specs.Prelude.{ℕ, List, codes}
use Rattle.sparse_io.specs.declared.banner.Banner.{Banner}
use Rattle.sparse_io.specs.declared.banner.Banner.TheVariants.{LowerCase, MixedCase}

-- the first word of a text with this banner
abbrev pub banner_word : Banner → List ℕ
banner_word LowerCase = codes "%%matrixmarket"
banner_word MixedCase = codes "%%MatrixMarket"
