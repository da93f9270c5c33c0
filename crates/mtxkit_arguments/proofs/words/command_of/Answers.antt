use Rattle.std.proofs.Common.{sym}
use Rattle.clap.specs.Matches.{found_of}
use Rattle.mtxkit_arguments.proofs.GivenCommands.{given_by}
use Rattle.mtxkit_arguments.proofs.SameRows.{none-given}
use Rattle.mtxkit_arguments.proofs.words.command_of.Goals as goal

pub returns-clause-given : goal.returns-clause-given
returns-clause-given c =
    given_by c.args.matches.now c.named_command.result c.in_ok-name.name.now
    (found_of c.in_ok-name.words.now) (sym c.in_ok-name.ensures.name) c.named_command.ensures.named
    c.named_command.ensures.given (sym c.in_ok-name.ensures.rows)

pub returns-clause-none : goal.returns-clause-none
returns-clause-none c =
    none-given c.args.matches.now c.named_command.result c.in_ok-name.name.now
    (found_of c.in_ok-name.words.now) (sym c.in_ok-name.ensures.name) c.named_command.ensures.none
    (sym c.in_ok-name.ensures.rows)
