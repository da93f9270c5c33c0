use Rattle.std.proofs.Common.{inr, map, string_bytes, ap, ◌∙◌}
use Rattle.std.proofs.lemmas.List.{map_push}
use Rattle.std.proofs.lemmas.Result.{err_from_is_err_and}
use Rattle.file_readings.proofs.Readings.{all-read, first-unread, one-more-read}
use Rattle.mtxkit_commands.specs.Inputs.{input_fault}
use Rattle.mtxkit_commands.proofs.evaluated.read_all.Goals as goal

pub loop-index-preserved : goal.loop-index-preserved
loop-index-preserved g c =
    one-more-read c.args.files.now c.loop-index.index _ c.loop-index-test.true
    (map string_bytes c.loop-index.contents.items) _ _ _ c.loop-index.invariant
    (string_bytes c.in_ok-content.content) _ c.in_ok-content.ensures.read
    (ap (map string_bytes) c.in_ok-push.ensures.items
    ∙ map_push string_bytes c.loop-index.contents.items c.in_ok-content.content)

pub returns-in_err-content-clause-unread : goal.returns-in_err-content-clause-unread
returns-in_err-content-clause-unread g c =
    let p = err_from_is_err_and c.from_residual-in_err-content.result
    c.from_residual-in_err-content.ensures.1 in
    rw (p.1, p.2) (inr (first-unread c.args.files.now c.loop-index.index _ c.loop-index-test.true
    (map string_bytes c.loop-index.contents.items) _ _ _ c.loop-index.invariant input_fault
    c.in_err-content.field-0.0 c.in_err-content.ensures.unread))

pub returns-clause-read : goal.returns-clause-read
returns-clause-read g c = all-read c.args.files.now c.loop-index.index _ _ _ c.loop-index-test.false
    c.loop-index.invariant
