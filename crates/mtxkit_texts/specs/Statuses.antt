-- The exit statuses of failures.
use Rattle.std.specs.Prelude.{ℕ}
use Rattle.mtxkit_texts.specs.declared.failure.Failure.{Failure}
use Rattle.mtxkit_texts.specs.declared.failure.Failure.TheVariants.{Usage}

-- 2 for wrong usage, and otherwise 1
abbrev pub status_of : Failure → ℕ
status_of Usage = 2
status_of failure = 1
