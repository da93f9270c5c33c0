-- The text of `mtxkit spy`.
use Rattle.std.specs.Prelude.{◌≡◌, ℕ, ◌*◌, ◌<◌, ◌≤◌, ◌↔◌, IsTrue, List, length}
use Rattle.sparse_algebra.specs.declared.scalar.wide.W128.{W128}
use Rattle.sparse_pattern.specs.Raw.{Raw}
use Rattle.sparse_compressed.specs.Compressed.{Compressed}
use Rattle.mtxkit_matrices.specs.Pictures.{CellCounts, HasEntryIn, is_black, count_at, entries_in}
use Rattle.mtxkit_matrices.specs.PictureTexts.{bitmap_text, block_text}
use Rattle.mtxkit_matrices.specs.PictureSizes.{picture_sizes}
use Rattle.mtxkit_matrices.specs.SvgTexts.{svg_text, svg_title}
use Rattle.mtxkit_texts.specs.AnyField.{MeansPlaces}

-- the picture of a pattern, whose sides have at most `size` cells; it has a number for each cell: that of
-- the entries that lie in it. A cell is black exactly if there is one
pub record IsDrawing (p : Raw) (size : ℕ) (picture : CellCounts) : Type 0 where
  pub sizes : (picture.height, picture.width) ≡ picture_sizes p.major_dim p.minor_dim size
  pub high : picture.height ≤ size
  pub wide : picture.width ≤ size
  pub cells : length picture.counts ≡ picture.height * picture.width
  pub counts : (r c : ℕ) → r < picture.height → c < picture.width
      → count_at picture r c ≡ entries_in p picture.height picture.width r c
  pub black : (r c : ℕ) → r < picture.height → c < picture.width
      → IsTrue (is_black picture r c) ↔ HasEntryIn p picture.height picture.width r c

-- the picture of the pattern that the text means
pub record IsPictureOf (text : List ℕ) (size : ℕ) (picture : CellCounts) : Type 0 where
  pub entries : ℕ
  pub matrix : Compressed W128
  pub meant : MeansPlaces text entries matrix
  pub drawn : IsDrawing matrix.pattern size picture

-- the text of such a picture as a portable bitmap
abbrev pub ShowsBitmap : List ℕ → ℕ → List ℕ → Type 0
ShowsBitmap text size shown =
    (picture : CellCounts) × IsPictureOf text size picture × (shown ≡ bitmap_text picture)

-- the text of such a picture in block characters
abbrev pub ShowsBlocks : List ℕ → ℕ → List ℕ → Type 0
ShowsBlocks text size shown =
    (picture : CellCounts) × IsPictureOf text size picture × (shown ≡ block_text picture)

-- the title of the picture of a pattern
abbrev pub title_of : Raw → List ℕ
title_of p = svg_title p.major_dim p.minor_dim (length p.indices)

-- the text of such a picture as SVG, with the shape of the matrix and the number of its entries in the
-- title
abbrev pub ShowsSvg : List ℕ → ℕ → List ℕ → Type 0
ShowsSvg text size shown = (picture : CellCounts) × (is : IsPictureOf text size picture)
    × (shown ≡ svg_text (title_of is.matrix.pattern) picture)
