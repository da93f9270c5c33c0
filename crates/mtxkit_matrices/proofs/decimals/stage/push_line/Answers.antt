use Rattle.std.proofs.Common.{inl, inr, rules}
use Rattle.std.proofs.lemmas.Result.{IfOk-weaker}
use Rattle.mtxkit_matrices.proofs.CopiedLines.{is_commented, are_content, blank_step, comment_step, copied}
use Rattle.mtxkit_matrices.proofs.KeptLines.{same_at}
use Rattle.mtxkit_matrices.proofs.ScaleRefusals.{line_memory_failed, sizes_refused}
use Rattle.mtxkit_matrices.proofs.decimals.stage.push_line.Goals as goal

pub returns-in_default-clause-written : goal.returns-in_default-clause-written
returns-in_default-clause-written c =
    let blank = c.in_default.ensures in
    IfOk-weaker c.push_bytes.result _ _ (λ next h. h c.args.scale)
    (copied c.args.line.now _ _ c.args.stage c.args.stage c.requires
    (λ scale. blank_step scale c.args.stage _ blank)
    (same_at c.args.stage c.args.line.now (inl blank)) c.push_bytes.result
    c.push_bytes.ensures.next c.push_bytes.ensures.appended)

pub returns-in_default-stage-clause-written : goal.returns-in_default-stage-clause-written
returns-in_default-stage-clause-written c =
    let comment = is_commented c.args.line.now c.in-Some.ensures c.is_comment.ensures
    c.if-is_comment.true in
    IfOk-weaker c.push_bytes-in_default-stage.result _ _ (λ next h. h c.args.scale)
    (copied c.args.line.now _ _ c.args.stage c.args.stage c.requires
    (λ scale. comment_step scale c.args.stage _ c.in_default-stage.not-Head comment)
    (same_at c.args.stage c.args.line.now (inr comment))
    c.push_bytes-in_default-stage.result c.push_bytes-in_default-stage.ensures.next
    c.push_bytes-in_default-stage.ensures.appended)

pub returns-in_default-stage-clause-refused : goal.returns-in_default-stage-clause-refused
returns-in_default-stage-clause-refused c =
    line_memory_failed c.args.scale c.args.number c.args.stage _
    c.push_bytes-in_default-stage.result
    c.push_bytes-in_default-stage.ensures.refused

pub push_sizes-requires-clause-content : goal.push_sizes-requires-clause-content
push_sizes-requires-clause-content c =
    are_content c.args.line.now c.in-Some.ensures c.is_comment.ensures c.if-is_comment.false

pub returns-in-Sizes-clause-refused : goal.returns-in-Sizes-clause-refused
returns-in-Sizes-clause-refused c =
    sizes_refused c.args.scale c.args.number _ _ c.push_sizes.result c.args.stage
    c.push_sizes.ensures.refused (search rules)

pub push_entry-requires : goal.push_entry-requires
push_entry-requires c =
    are_content c.args.line.now c.in-Some.ensures c.is_comment.ensures c.if-is_comment.false
