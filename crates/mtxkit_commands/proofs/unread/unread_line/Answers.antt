use Rattle.std.proofs.Common.{codes, refl}
use Rattle.mtxkit_commands.proofs.unread.unread_line.Goals as goal

pub returns-in-NotText : goal.returns-in-NotText
returns-in-NotText c = (codes "an argument is not UTF-8; see mtxkit --help\n", refl)

pub returns-in-OutOfMemory : goal.returns-in-OutOfMemory
returns-in-OutOfMemory c = (codes "out of memory\n", refl)
