-- Closes postconditions at an early `?`, where the error of a call is returned: those that only speak of `Ok`.
use Rattle.std.proofs.lemmas.Result.{IfOk-from_err}

pub ruleset early_return = (IfOk-from_err)
