use Rattle.std.proofs.Common.{◌∙◌}
use Rattle.std.proofs.lemmas.Result.{IfOk-weaker}
use Rattle.std.specs.String.{string_bytes}
use Rattle.mtxkit_texts.proofs.Heads.{begins-pattern}
use Rattle.mtxkit_texts.proofs.symmetric.symmetric_pattern.Goals as goal

pub with_head-requires : goal.with_head-requires
with_head-requires c =
    let begin = begins-pattern c.args.lower.now in
    (begin.0, c.as_str.ensures.value ∙ c.in_ok-general.ensures ∙ begin.1)

pub returns : goal.returns
returns c =
    let begin = begins-pattern c.args.lower.now in
    let is = c.as_str.ensures.value ∙ c.in_ok-general.ensures ∙ begin.1 in
    IfOk-weaker c.with_head.result _ _
    (λ written changed. (
      string_bytes c.in_ok-general.general,
      (
        c.in_ok-general.ensures,
        record {
          rest = begin.0;
          from = c.in_ok-general.ensures ∙ begin.1;
          to = changed begin.0 is;
        },
      ),
    )) c.with_head.ensures
