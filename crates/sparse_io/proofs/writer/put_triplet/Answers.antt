use Rattle.std.proofs.Common.{string_bytes}
use Rattle.std.proofs.lemmas.Result.{err_from_is_err_and}
use Rattle.sparse_io.proofs.Buffering.{AppendsSome-all, AppendsSome-none}
use Rattle.sparse_io.proofs.writer.put_triplet.Goals as goal
use Rattle.sparse_io.proofs.writer.put_triplet.Goals.{then-len-ge-FULL+in_ok-flush}
use Rattle.sparse_io.proofs.writer.put_triplet.Goals.{else-len-ge-FULL}

pub returns-in_err-push_triplet-clause-prefix : goal.returns-in_err-push_triplet-clause-prefix
returns-in_err-push_triplet-clause-prefix g c =
    let p = err_from_is_err_and c.from_residual-in_err-push_triplet.result
    c.from_residual-in_err-push_triplet.ensures.1 in
    rw (p.1) (elim c.if-len-ge-FULL.branch [
      | then-len-ge-FULL+in_ok-flush w ↦ rw w.sink-is
          (AppendsSome-all _ _ (string_bytes c.args.text.now) w.in_ok-flush.ensures.all)
      | else-len-ge-FULL w ↦ rw w.sink-is (AppendsSome-none _ (string_bytes c.args.text.now))
    ])
