use Rattle.std.proofs.Common.{inr}
use Rattle.std.proofs.lemmas.Result.{IfOk-weaker, MatchResult-weaker}
use Rattle.file_readings.proofs.Readings.{three-read}
use Rattle.mtxkit_commands.proofs.answers.check_of.Goals as goal

pub returns-clause-answer : goal.returns-clause-answer
returns-clause-answer g c =
    IfOk-weaker c.check_text.result _ _
    (λ answer said. (
      c.as_str.result.now,
      c.as_str-2.result.now,
      c.as_str-3.result.now,
      three-read _ _ _ _ _ _ _ _ _ _ _ _ _ c.in_ok-first.ensures.read
          c.in_ok-second.ensures.read c.in_ok-third.ensures.read c.as_str.ensures.value
          c.as_str-2.ensures.value c.as_str-3.ensures.value,
      said,
    )) c.check_text.ensures.said

pub returns-clause-failed : goal.returns-clause-failed
returns-clause-failed g c =
    MatchResult-weaker c.check_text.result c.check_text.ensures.refused (λ line h. h)
    (λ e why. inr (inr (inr (
      c.as_str.result.now,
      c.as_str-2.result.now,
      c.as_str-3.result.now,
      three-read _ _ _ _ _ _ _ _ _ _ _ _ _ c.in_ok-first.ensures.read
          c.in_ok-second.ensures.read c.in_ok-third.ensures.read c.as_str.ensures.value
          c.as_str-2.ensures.value c.as_str-3.ensures.value,
      why,
    ))))
