-- The commands that arguments give.
use Rattle.std.specs.Prelude.{◌≡◌, ◌≢◌, ℕ, List, codes, Option, Some, None, Bool, true, false}
use Rattle.std.specs.Prelude.{unwrap_or}
use Rattle.std.specs.Option.{option_map}
use Rattle.clap.specs.Matches.{first_value, matched_of, raw_values, subcommand_name_of}
use Rattle.clap.specs.Simple.{subcommand_rows_of}
use Rattle.clap.specs.Walk.{rows_of}
use Rattle.clap.specs.declared.parser.matches.ArgMatches.{ArgMatches}
use Rattle.clap.specs.declared.parser.matches.Found.{Found}
use Rattle.sparse_expr.specs.declared.calculator.Form.{Form}
use Rattle.sparse_expr.specs.declared.calculator.Form.TheVariants.{Rows, Cols}
use Rattle.mtxkit_facts.specs.declared.facts.ReportFormat.{ReportFormat}
use Rattle.mtxkit_facts.specs.declared.facts.ReportFormat.TheVariants.{Lines, Json}
use Rattle.mtxkit_arguments.specs.Files.{target_file, paths}
use Rattle.mtxkit_arguments.specs.Optional.{GivesFlag, GivesNumber}
use Rattle.mtxkit_arguments.specs.Sizes.{size_given}
use Rattle.mtxkit_matrices.specs.declared.orders.EliminationOrder.{EliminationOrder}
use Rattle.mtxkit_matrices.specs.declared.orders.EliminationOrder.TheVariants as elimination
use Rattle.mtxkit_patterns.specs.declared.square.Method.{Method}
use Rattle.mtxkit_patterns.specs.declared.square.Method.TheVariants.{MinimumDegree}
use Rattle.mtxkit_patterns.specs.declared.square.Method.TheVariants.{ReverseCuthillMckee}
use Rattle.mtxkit_arguments.specs.declared.commands.Command.{Command}
use Rattle.mtxkit_arguments.specs.declared.commands.Command.TheVariants.{Info, Spy, Copy, Field}
use Rattle.mtxkit_arguments.specs.declared.commands.Command.TheVariants.{Integer}
use Rattle.mtxkit_arguments.specs.declared.commands.Command.TheVariants.{Order, Permute, Fill}
use Rattle.mtxkit_arguments.specs.declared.commands.Command.TheVariants.{Symmetric, Solve, Check}
use Rattle.mtxkit_arguments.specs.declared.commands.Command.TheVariants.{Eval}
use Rattle.mtxkit_arguments.specs.declared.options.FillOrder.{FillOrder}
use Rattle.mtxkit_arguments.specs.declared.options.FillOrder.TheVariants as fill
use Rattle.mtxkit_arguments.specs.declared.options.Target.{Target}
use Rattle.mtxkit_arguments.specs.declared.options.Target.TheVariants.{Bitmap, Blocks, Svg}
use Rattle.mtxkit_arguments.specs.declared.options.Values.{Values}
use Rattle.mtxkit_arguments.specs.declared.options.Values.TheVariants.{Integers, Pattern}

-- the name of a command
abbrev pub command_name : Command → List ℕ
command_name (Info file form) = codes "info"
command_name (Spy file size target) = codes "spy"
command_name (Copy file) = codes "copy"
command_name (Field file values) = codes "field"
command_name (Integer file scale) = codes "integer"
command_name (Symmetric file) = codes "symmetric"
command_name (Order file method) = codes "order"
command_name (Permute order file) = codes "permute"
command_name (Fill file order form) = codes "fill"
command_name (Eval modulus order words files) = codes "eval"
command_name (Solve modulus order a b) = codes "solve"
command_name (Check modulus a x b) = codes "check"

-- the argument for these values
abbrev pub field_name : Values → List ℕ
field_name Integers = codes "integer"
field_name Pattern = codes "pattern"

-- the name of a method
abbrev pub method_name : Method → List ℕ
method_name MinimumDegree = codes "amd"
method_name ReverseCuthillMckee = codes "rcm"

-- the method has the name that is given, or is minimum degree if none is
abbrev pub GivesMethod : Option (List ℕ) → Method → Type 0
GivesMethod None method = method ≡ MinimumDegree
GivesMethod (Some name) method = name ≡ method_name method

-- the order has the name that is given, or is that of the file with this path if it is no order's name; it is the
-- natural one if none is given
abbrev pub IsOrderNamed : List ℕ → FillOrder → Type 0
IsOrderNamed name fill.Natural = name ≡ codes "natural"
IsOrderNamed name (fill.Computed method) = name ≡ method_name method
IsOrderNamed name (fill.File path) = (path.now ≡ name) × (name ≢ codes "natural")
    × ((method : Method) → name ≢ method_name method)

abbrev pub GivesOrder : Option (List ℕ) → FillOrder → Type 0
GivesOrder None order = order ≡ fill.Natural
GivesOrder (Some name) order = IsOrderNamed name order

-- the name of an order of elimination
abbrev pub elimination_name : EliminationOrder → List ℕ
elimination_name elimination.Natural = codes "natural"
elimination_name elimination.MinimumDegree = codes "amd"
elimination_name elimination.ReverseCuthillMckee = codes "rcm"

-- the order of elimination has the name that is given, or is minimum degree if none is
abbrev pub GivesElimination : Option (List ℕ) → EliminationOrder → Type 0
GivesElimination None order = order ≡ elimination.MinimumDegree
GivesElimination (Some name) order = name ≡ elimination_name order

-- the argument with this name is this text
abbrev pub IsArgument : Found → List ℕ → List ℕ → Type 0
IsArgument words name text = first_value words name ≡ Some text

-- the target of a picture without an output file, by the flags for block characters and for SVG
abbrev pub shown_on : Bool → Bool → Target
shown_on true svg = Blocks
shown_on false true = Svg
shown_on false false = Bitmap

-- the target is the output file that is named, if any; - names the standard output, which is no file
abbrev pub IsTargetOf : Found → Option (List ℕ) → Target → Type 0
IsTargetOf words None target = (text svg : Bool) × GivesFlag words (codes "text") text
    × GivesFlag words (codes "svg") svg × (target ≡ shown_on text svg)
IsTargetOf words (Some path) target = (path ≡ codes "-" → target ≡ Bitmap)
    × (path ≢ codes "-" → target_file target ≡ Some path)

-- the arguments with this name are these texts
abbrev pub AreArguments : Found → List ℕ → List (List ℕ) → Type 0
AreArguments words name texts = option_map raw_values (matched_of words name) ≡ Some texts

-- facts are written as lines unless a flag is given
abbrev pub report_format_for : Bool → ReportFormat
report_format_for true = Json
report_format_for false = Lines

abbrev pub GivesReportFormat : Found → ReportFormat → Type 0
GivesReportFormat words form = (json : Bool) × GivesFlag words (codes "json") json × (form ≡ report_format_for json)

-- entries are written row by row unless a flag is given
abbrev pub form_for : Bool → Form
form_for true = Cols
form_for false = Rows

abbrev pub GivesForm : Found → Form → Type 0
GivesForm words order =
    (columns : Bool) × GivesFlag words (codes "columns") columns × (order ≡ form_for columns)

-- the size, the scale and the modulus are those that are given; the default size and the scale 0 if none is
abbrev pub GivesSize : Found → Target → ℕ → Type 0
GivesSize words target size = (given : Option ℕ) × GivesNumber 64 words (codes "size") given
    × (size ≡ size_given given target)

abbrev pub GivesScale : Found → ℕ → Type 0
GivesScale words scale =
    (given : Option ℕ) × GivesNumber 32 words (codes "scale") given × (scale ≡ unwrap_or given 0)

abbrev pub GivesModulus : Found → Option ℕ → Type 0
GivesModulus words modulus = GivesNumber 64 words (codes "mod") modulus

-- the command has the files, the field, the output file, the flags and the numbers that these arguments give
abbrev pub GivesCommand : Found → Command → Type 0
GivesCommand words (Info file form) = IsArgument words (codes "FILE") file.now × GivesReportFormat words form
GivesCommand words (Spy file size target) = IsArgument words (codes "FILE") file.now
    × IsTargetOf words (first_value words (codes "output")) target × GivesSize words target size
GivesCommand words (Copy file) = IsArgument words (codes "FILE") file.now
GivesCommand words (Field file values) =
    IsArgument words (codes "FILE") file.now × IsArgument words (codes "FIELD") (field_name values)
GivesCommand words (Integer file scale) =
    IsArgument words (codes "FILE") file.now × GivesScale words scale
GivesCommand words (Symmetric file) = IsArgument words (codes "FILE") file.now
GivesCommand words (Order file method) = IsArgument words (codes "FILE") file.now
    × GivesMethod (first_value words (codes "METHOD")) method
GivesCommand words (Permute order file) = IsArgument words (codes "ORDER") order.now
    × IsArgument words (codes "FILE") file.now
GivesCommand words (Fill file order form) = IsArgument words (codes "FILE") file.now
    × (GivesOrder (first_value words (codes "order")) order × GivesReportFormat words form)
GivesCommand words (Eval modulus order expression files) =
    IsArgument words (codes "EXPR") expression.now × AreArguments words (codes "FILE") (paths files.now)
    × GivesForm words order × GivesModulus words modulus
GivesCommand words (Solve modulus order a b) = IsArgument words (codes "A") a.now
    × IsArgument words (codes "B") b.now × GivesModulus words modulus
    × GivesElimination (first_value words (codes "order")) order
GivesCommand words (Check modulus a x b) = IsArgument words (codes "A") a.now
    × IsArgument words (codes "X") x.now × IsArgument words (codes "B") b.now
    × GivesModulus words modulus

-- the arguments give no command with this name
abbrev pub GiveNone : Found → List ℕ → Type 0
GiveNone words name = (command : Command) → name ≡ command_name command → ¬ GivesCommand words command

-- the command is that of the subcommand that `clap` met, and the subcommand's arguments give it
pub record IsGiven (matches : ArgMatches) (command : Command) : Type 0 where
  pub named : subcommand_name_of matches ≡ Some (command_name command)
  pub words : Found
  pub given : GivesCommand words command
  pub rows : option_map (λ s. s.1) (subcommand_rows_of matches) ≡ Some (rows_of words)
