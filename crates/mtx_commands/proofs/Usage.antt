-- Words whose answer was written are a command.
use Rattle.std.proofs.Common.{◌≡◌, ℕ, List, Option, inl, inr}
use Rattle.file_readings.specs.Readings.{Reading}
use Rattle.mtx_commands.specs.Commands.{IsAnswered, IsCommand}

pub IsCommand-answered : (words : List (List ℕ)) (before after : List Reading)
    (old new : Option (List ℕ)) → IsAnswered words before after old new → IsCommand words
IsCommand-answered words before after old new (inl (form, h)) = inl (record {
  form = form;
  expression = h.expression;
  paths = h.paths;
  split = h.split;
  some = h.some;
})
IsCommand-answered words before after old new (inr h) = inr (h.triangle, h.path, h.asked)
