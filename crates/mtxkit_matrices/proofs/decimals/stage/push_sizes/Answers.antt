use Rattle.std.proofs.Common.{Some, Result, refl, ap, ◌∙◌, inl, inr}
use Rattle.std.proofs.lemmas.Result.{IfErr-weaker}
use Rattle.sparse_parser.specs.declared.error.Cause.{Cause}
use Rattle.sparse_parser.specs.declared.size.Size.{Size}
use Rattle.mtxkit_matrices.specs.declared.decimals.stage.Stage.TheVariants.{Sizes, Entries}
use Rattle.mtxkit_matrices.proofs.CopiedLines.{copied, sized, unsized, no_size}
use Rattle.mtxkit_matrices.proofs.decimals.stage.push_sizes.Goals as goal

pub returns-in-Some-Ok-clause-written : goal.returns-in-Some-Ok-clause-written
returns-in-Some-Ok-clause-written c =
    let sizes = sized c.args.header _ c.from_line.result c.from_line.ensures _
    (c.in-Some-Ok.is ∙ ap (λ (x : Result Size Cause). Some x) c.in-Some-Ok.field-0-is) in
    copied c.args.line.now _ _ (Sizes c.args.header) (Entries c.args.header) c.requires.plain
    (λ scale. inr (c.requires.content.content, refl, refl, sizes.0, sizes.1)) refl
    c.push_bytes.result c.push_bytes.ensures.next c.push_bytes.ensures.appended

pub returns-in-Some-Ok-clause-refused : goal.returns-in-Some-Ok-clause-refused
returns-in-Some-Ok-clause-refused c =
    IfErr-weaker c.push_bytes.result _ _ (λ e k scale. inl k) c.push_bytes.ensures.refused

pub returns-in-Some-Err-clause-refused : goal.returns-in-Some-Err-clause-refused
returns-in-Some-Err-clause-refused c = λ scale.
    inr (
      c.requires.content,
      (
        c.of_line.ensures.line,
        rw c.of_line.ensures.fault (unsized c.args.header _ c.from_line.result c.from_line.ensures
            c.in-Some-Err.cause _
            (c.in-Some-Err.is ∙ ap (λ (x : Result Size Cause). Some x) c.in-Some-Err.field-0-is)
            c.of_size-fault.ensures),
      ),
    )

pub returns-in-None-clause-refused : goal.returns-in-None-clause-refused
returns-in-None-clause-refused c = λ scale.
    inr (
      c.requires.content,
      (
        c.of_line-in-None.ensures.line,
        rw c.of_line-in-None.ensures.fault
            (no_size c.args.header _ c.from_line.result c.from_line.ensures c.in-None.is),
      ),
    )
