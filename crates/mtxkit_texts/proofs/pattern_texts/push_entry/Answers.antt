use Rattle.std.proofs.Common.{arith}
use Rattle.std.proofs.lemmas.Grind.{common_steps}
use Rattle.mtxkit_texts.specs.PatternTexts.{entry_line}
use Rattle.mtxkit_texts.proofs.pattern_texts.push_entry.Goals as goal

pub returns : goal.returns
unfolding entry_line
returns c = grind (arith, common_steps)
