use Rattle.std.proofs.Common.{◌∙◌}
use Rattle.std.proofs.lemmas.Result.{IfOk-weaker}
use Rattle.std.specs.Fmt.{signed_decimal}
use Rattle.std.specs.String.{string_bytes}
use Rattle.sparse_algebra.specs.Numbers.{w64_number}
use Rattle.mtxkit_texts.specs.Rewritten.{listed}
use Rattle.mtxkit_texts.proofs.Heads.{begins-integer}
use Rattle.mtxkit_texts.proofs.symmetric.symmetric_integers.Goals as goal

pub with_head-requires : goal.with_head-requires
with_head-requires c =
    let begin = begins-integer (λ v. signed_decimal (w64_number v)) (listed c.args.lower.now) in
    (begin.0, c.as_str.ensures.value ∙ c.in_ok-general.ensures ∙ begin.1)

pub returns : goal.returns
returns c =
    let begin = begins-integer (λ v. signed_decimal (w64_number v)) (listed c.args.lower.now) in
    let general = c.in_ok-general.ensures in
    IfOk-weaker c.with_head.result _ _
    (λ written changed. (
      string_bytes c.in_ok-general.general,
      (
        general,
        record {
          rest = begin.0;
          from = general ∙ begin.1;
          to = changed begin.0 (c.as_str.ensures.value ∙ general ∙ begin.1);
        },
      ),
    )) c.with_head.ensures
