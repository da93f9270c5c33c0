-- The command that arguments give, by the rows of the arguments alone.
use Rattle.std.proofs.Common.{◌≡◌, ℕ, Bool, List, Option, Some, None, codes, IfNone, ap, sym, subst, ◌∙◌}
use Rattle.std.specs.Option.{option_map}
use Rattle.clap.proofs.WalkLemmas.{first_value-rows, one_text-rows, raw_values-rows}
use Rattle.clap.specs.Matches.{first_value, matched_of, one_text, raw_values, subcommand_name_of}
use Rattle.clap.specs.Simple.{subcommand_rows_of}
use Rattle.clap.specs.Walk.{all_of, first_of, one_of, rows_of}
use Rattle.clap.specs.declared.parser.matches.ArgMatches.{ArgMatches}
use Rattle.clap.specs.declared.parser.matches.Found.{Found}
use Rattle.mtxkit_facts.specs.declared.facts.ReportFormat.{ReportFormat}
use Rattle.sparse_expr.specs.declared.calculator.Form.{Form}
use Rattle.mtxkit_arguments.specs.Optional.{GivesFlag, GivesNumber}
use Rattle.mtxkit_arguments.specs.Words.{command_name, GivesCommand, GivesElimination, GivesForm}
use Rattle.mtxkit_arguments.specs.Words.{GivesMethod, GivesOrder, GivesReportFormat, GivesScale, GivesSize}
use Rattle.mtxkit_arguments.specs.Words.{GiveNone, IsGiven, IsTargetOf}
use Rattle.mtxkit_arguments.specs.declared.options.Target.{Target}
use Rattle.mtxkit_arguments.specs.declared.commands.Command.{Command}
use Rattle.mtxkit_arguments.specs.declared.commands.Command.TheVariants.{Info, Spy, Copy, Field}
use Rattle.mtxkit_arguments.specs.declared.commands.Command.TheVariants.{Integer}
use Rattle.mtxkit_arguments.specs.declared.commands.Command.TheVariants.{Order, Permute, Fill}
use Rattle.mtxkit_arguments.specs.declared.commands.Command.TheVariants.{Symmetric, Solve, Check}
use Rattle.mtxkit_arguments.specs.declared.commands.Command.TheVariants.{Eval}

some-same : {A : Type 0} {x y : A} → Some x ≡ Some y → x ≡ y
some-same e = cc

module _ (p q : Found) (same : rows_of p ≡ rows_of q) where
  same-first : (id : List ℕ) → first_value p id ≡ first_value q id
  same-first id = first_value-rows p id ∙ ap (first_of id) same ∙ sym (first_value-rows q id)

  same-text : (id : List ℕ) → one_text p id ≡ one_text q id
  same-text id = one_text-rows p id ∙ ap (one_of id) same ∙ sym (one_text-rows q id)

  same-values : (id : List ℕ)
      → option_map raw_values (matched_of p id) ≡ option_map raw_values (matched_of q id)
  same-values id = raw_values-rows p id ∙ ap (all_of id) same ∙ sym (raw_values-rows q id)

  by-first : (P : Option (List ℕ) → Type 0) (id : List ℕ) → P (first_value q id) → P (first_value p id)
  by-first P id holds = subst P (sym (same-first id)) holds

  same-flag : (name : List ℕ) (is : Bool) → GivesFlag q name is → GivesFlag p name is
  same-flag name is g = record {
    none = λ e. g.none (sym (same-text name) ∙ e);
    yes = λ e. g.yes (sym (same-text name) ∙ e);
    no = λ e. g.no (sym (same-text name) ∙ e);
  }

  same-number : (bits : ℕ) (name : List ℕ) (number : Option ℕ) → GivesNumber bits q name number
      → GivesNumber bits p name number
  same-number bits name number g = record {
    none = λ e. g.none (sym (same-text name) ∙ e);
    some = λ t e. g.some t (sym (same-text name) ∙ e);
  }

  same-format : (form : ReportFormat) → GivesReportFormat q form → GivesReportFormat p form
  same-format form g = (g.0, same-flag (codes "json") g.0 g.1, g.2)

  same-form : (form : Form) → GivesForm q form → GivesForm p form
  same-form form g = (g.0, same-flag (codes "columns") g.0 g.1, g.2)

  same-target : (path : Option (List ℕ)) (target : Target) → IsTargetOf q path target
      → IsTargetOf p path target
  same-target None target g =
      (g.0, g.1, same-flag (codes "text") g.0 g.2, same-flag (codes "svg") g.1 g.3, g.4)
  same-target (Some path) target g = g

  same-size : (target : Target) (size : ℕ) → GivesSize q target size → GivesSize p target size
  same-size target size g = (g.0, same-number 64 (codes "size") g.0 g.1, g.2)

  same-scale : (scale : ℕ) → GivesScale q scale → GivesScale p scale
  same-scale scale g = (g.0, same-number 32 (codes "scale") g.0 g.1, g.2)

  given-same : (command : Command) → GivesCommand q command → GivesCommand p command
  given-same (Info file form) g = (same-first (codes "FILE") ∙ g.0, same-format form g.1)
  given-same (Spy file size target) g = (
    same-first (codes "FILE") ∙ g.0,
    by-first (λ path. IsTargetOf p path target) (codes "output") (same-target _ target g.1),
    same-size target size g.2,
  )
  given-same (Copy file) g = same-first (codes "FILE") ∙ g
  given-same (Field file values) g =
      (same-first (codes "FILE") ∙ g.0, same-first (codes "FIELD") ∙ g.1)
  given-same (Integer file scale) g = (same-first (codes "FILE") ∙ g.0, same-scale scale g.1)
  given-same (Symmetric file) g = same-first (codes "FILE") ∙ g
  given-same (Order file method) g = (
    same-first (codes "FILE") ∙ g.0,
    by-first (λ name. GivesMethod name method) (codes "METHOD") g.1,
  )
  given-same (Permute order file) g =
      (same-first (codes "ORDER") ∙ g.0, same-first (codes "FILE") ∙ g.1)
  given-same (Fill file order form) g = (
    same-first (codes "FILE") ∙ g.0,
    (
      by-first (λ name. GivesOrder name order) (codes "order") g.1.0,
      same-format form g.1.1,
    ),
  )
  given-same (Eval modulus order words files) g = (
    same-first (codes "EXPR") ∙ g.0,
    same-values (codes "FILE") ∙ g.1,
    same-form order g.2,
    same-number 64 (codes "mod") modulus g.3,
  )
  given-same (Solve modulus order a b) g = (
    same-first (codes "A") ∙ g.0,
    same-first (codes "B") ∙ g.1,
    same-number 64 (codes "mod") modulus g.2,
    by-first (λ name. GivesElimination name order) (codes "order") g.3,
  )
  given-same (Check modulus a x b) g = (
    same-first (codes "A") ∙ g.0,
    same-first (codes "X") ∙ g.1,
    same-first (codes "B") ∙ g.2,
    same-number 64 (codes "mod") modulus g.3,
  )

-- no command, if the arguments of the subcommand give none with its name
pub none-given : (matches : ArgMatches) (command : Option Command) (name : List ℕ) (words : Found)
    → subcommand_name_of matches ≡ Some name → IfNone command (GiveNone words name)
    → option_map (λ s. s.1) (subcommand_rows_of matches) ≡ Some (rows_of words)
    → IfNone command ((c : Command) → ¬ IsGiven matches c)
none-given matches None name words met none rows = λ c given.
    let named : name ≡ command_name c = some-same (sym met ∙ given.named) in
    let same : rows_of words ≡ rows_of given.words = some-same (sym rows ∙ given.rows) in
    none c named (given-same words given.words same c given.given)
none-given matches (Some c) name words met none rows = tt
