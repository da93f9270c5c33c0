-- What commands write.
use Rattle.std.specs.Prelude.{ℕ, List, Option}
use Rattle.sparse_expr.specs.declared.calculator.Form.{Form}
use Rattle.mtxkit_matrices.specs.ScaledTexts.{IsScaledText}
use Rattle.mtxkit_facts.specs.Facts.{WritesInfo}
use Rattle.mtxkit_texts.specs.Headers.{header_in}
use Rattle.mtxkit_texts.specs.Lower.{Symmetrised}
use Rattle.mtxkit_texts.specs.Rewritten.{WritesIntegers, WritesPlaces, WritesCopy}
use Rattle.mtxkit_texts.specs.Shown.{ShowsBitmap, ShowsBlocks, ShowsSvg}
use Rattle.mtxkit_eval.specs.Evaluated.{WritesValue}
use Rattle.mtxkit_systems.specs.Systems.{WritesSolution, SaysProduct}
use Rattle.mtxkit_arguments.specs.Files.{paths}
use Rattle.mtxkit_arguments.specs.declared.commands.Command.{Command}
use Rattle.mtxkit_arguments.specs.declared.commands.Command.TheVariants.{Info, Spy, Copy, Field}
use Rattle.mtxkit_arguments.specs.declared.commands.Command.TheVariants.{Integer}
use Rattle.mtxkit_arguments.specs.declared.commands.Command.TheVariants.{Order, Permute, Fill}
use Rattle.mtxkit_arguments.specs.declared.commands.Command.TheVariants.{Symmetric, Solve, Check}
use Rattle.mtxkit_arguments.specs.declared.commands.Command.TheVariants.{Eval}
use Rattle.mtxkit_arguments.specs.declared.options.Target.{Target}
use Rattle.mtxkit_arguments.specs.declared.options.Target.TheVariants.{Blocks, Svg}
use Rattle.mtxkit_arguments.specs.declared.options.Values.{Values}
use Rattle.mtxkit_arguments.specs.declared.options.Values.TheVariants.{Integers, Pattern}
use Rattle.file_readings.specs.Readings.{Reading}
use Rattle.mtxkit_commands.specs.OrderCommands.{IsOrderAnswer, IsPermuteAnswer, IsFillAnswer}
use Rattle.file_readings.specs.Reads.{ReadsOne, ReadsTwo, ReadsThree, ReadsAll}

-- the picture of the pattern that a text means, in the format of the target
abbrev pub ShowsPicture : Target → List ℕ → ℕ → List ℕ → Type 0
ShowsPicture Blocks text size written = ShowsBlocks text size written
ShowsPicture Svg text size written = ShowsSvg text size written
ShowsPicture target text size written = ShowsBitmap text size written

-- the text of a text's matrix, with or without its values
abbrev pub WritesValues : Values → List ℕ → List ℕ → Type 0
WritesValues Integers text written = WritesIntegers text written
WritesValues Pattern text written = WritesPlaces text written

-- the text of the file with each number multiplied by 10 ^ scale, as a text of integers
abbrev pub IsScaleAnswer : ℕ → List ℕ → List Reading → List Reading → List ℕ → Type 0
IsScaleAnswer scale file old new written =
    ReadsOne file (λ text. IsScaledText scale text written) old new

-- the text of X, for the texts of A and B
abbrev pub IsSolveAnswer : Option ℕ → List ℕ → List ℕ → List Reading → List Reading → List ℕ
    → Type 0
IsSolveAnswer modulus a b old new written =
    ReadsTwo a b (λ first second. WritesSolution modulus first second written) old new

-- the text of the value of an expression over the matrices of files
abbrev pub IsEvalAnswer : Option ℕ → Form → List ℕ → List (List ℕ) → List Reading
    → List Reading → List ℕ → Type 0
IsEvalAnswer modulus order words files old new written =
    ReadsAll files (λ texts. WritesValue modulus order words texts written) old new

-- the line that says that A X = B, for the texts of A, X and B
abbrev pub IsCheckAnswer : Option ℕ → List ℕ → List ℕ → List ℕ → List Reading → List Reading
    → List ℕ → Type 0
IsCheckAnswer modulus a x b old new written =
    ReadsThree a x b (λ first second third. SaysProduct modulus first second third written) old new

-- the command read its files in order and no other file, and `written` is what it writes for these
abbrev pub IsAnswer : Command → List Reading → List Reading → List ℕ → Type 0
IsAnswer (Info file form) old new written =
    ReadsOne file.now (λ text. WritesInfo form text written) old new
IsAnswer (Spy file size target) old new written =
    ReadsOne file.now (λ text. ShowsPicture target text size written) old new
IsAnswer (Copy file) old new written =
    ReadsOne file.now (λ text. WritesCopy text written) old new
IsAnswer (Field file values) old new written =
    ReadsOne file.now (λ text. WritesValues values text written) old new
IsAnswer (Integer file scale) old new written = IsScaleAnswer scale file.now old new written
IsAnswer (Symmetric file) old new written =
    ReadsOne file.now (λ text. Symmetrised (header_in text) text written) old new
IsAnswer (Order file method) old new written = IsOrderAnswer file.now old new written
IsAnswer (Permute order file) old new written =
    IsPermuteAnswer order.now file.now old new written
IsAnswer (Fill file order form) old new written =
    IsFillAnswer order form file.now old new written
IsAnswer (Eval modulus order words files) old new written =
    IsEvalAnswer modulus order words.now (paths files.now) old new written
IsAnswer (Solve modulus order a b) old new written = IsSolveAnswer modulus a.now b.now old new written
IsAnswer (Check modulus a x b) old new written =
    IsCheckAnswer modulus a.now x.now b.now old new written
