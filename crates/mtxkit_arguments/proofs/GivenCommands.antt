-- The command of a subcommand of `clap`.
use Rattle.std.proofs.Common.{◌≡◌, List, ℕ, Option, Some, None, IfSome, ap, ◌∙◌}
use Rattle.std.specs.Option.{option_map}
use Rattle.clap.specs.Matches.{subcommand_name_of}
use Rattle.clap.specs.Simple.{subcommand_rows_of}
use Rattle.clap.specs.Walk.{rows_of}
use Rattle.clap.specs.declared.parser.matches.ArgMatches.{ArgMatches}
use Rattle.clap.specs.declared.parser.matches.Found.{Found}
use Rattle.mtxkit_arguments.specs.declared.commands.Command.{Command}
use Rattle.mtxkit_arguments.specs.Words.{command_name, GivesCommand, IsGiven}

-- the command, if there is one, that the arguments of the subcommand give
pub given_by : (matches : ArgMatches) (command : Option Command) (name : List ℕ) (words : Found)
    → subcommand_name_of matches ≡ Some name → IfSome command (λ c. name ≡ command_name c)
    → IfSome command (GivesCommand words)
    → option_map (λ s. s.1) (subcommand_rows_of matches) ≡ Some (rows_of words)
    → IfSome command (IsGiven matches)
given_by matches None name words met named given rows = tt
given_by matches (Some c) name words met named given rows =
    record { named = met ∙ ap Some named; words = words; given = given; rows = rows }
