use Rattle.std.proofs.Common.{◌+◌, ℕ, List, [], inl, inr, map, take, drop, string_bytes, refl, sym, ap, ◌∙◌}
use Rattle.std.proofs.Common.{take-append-drop}
use denote.Ref.{Bor}
use Rattle.std.proofs.lemmas.List.{map-append}
use Rattle.nalgebra_sparse.specs.PostfixWords.{texts}
use Rattle.file_readings.specs.Readings.{Reading, AreRead}
use Rattle.mtx_commands.specs.Inputs.{HasReadSome}
use Rattle.std.proofs.lemmas.List.{map_push}
use Rattle.std.proofs.lemmas.Result.{err_from_is_err_and}
use Rattle.file_readings.proofs.Readings.{all-read, first-unread, none-read, one-more-read}
use Rattle.mtx_commands.specs.Inputs.{unread_fault}
use Rattle.mtx_commands.proofs.inputs.read_all.Goals as goal

-- the files before file k were read
HasReadSome-taken : (files : List (Bor (List ℕ))) (k : ℕ) (contents : List (List ℕ))
    (old new : List Reading) → AreRead (texts (take k files)) contents old new
    → HasReadSome (texts files) old new
HasReadSome-taken files k contents old new read = record {
  some = texts (take k files);
  others = texts (drop k files);
  contents = contents;
  split = sym (ap texts (take-append-drop k files))
      ∙ map-append (λ (file : Bor (List ℕ)). file.now) (take k files) (drop k files);
  read = read;
}

pub loop-index-preserved : goal.loop-index-preserved
loop-index-preserved g c =
    one-more-read c.args.paths.now c.loop-index.index _ c.loop-index-test.true
    (map string_bytes c.loop-index.contents.items) _ _ _ c.loop-index.invariant
    (string_bytes c.in_ok-content.content) _ c.in_ok-content.ensures.read
    (ap (map string_bytes) c.in_ok-push.ensures.items
    ∙ map_push string_bytes c.loop-index.contents.items c.in_ok-content.content)

pub returns-in_err-content-clause-unread : goal.returns-in_err-content-clause-unread
returns-in_err-content-clause-unread g c =
    let p = err_from_is_err_and c.from_residual-in_err-content.result
    c.from_residual-in_err-content.ensures.1 in
    rw (p.1, p.2) (inr (first-unread c.args.paths.now c.loop-index.index _ c.loop-index-test.true
    (map string_bytes c.loop-index.contents.items) _ _ _ c.loop-index.invariant unread_fault
    c.in_err-content.field-0.0 c.in_err-content.ensures.unread))

pub returns-clause-read : goal.returns-clause-read
returns-clause-read g c = all-read c.args.paths.now c.loop-index.index _ _ _ c.loop-index-test.false
    c.loop-index.invariant

pub returns-in_err-push-clause-unread : goal.returns-in_err-push-clause-unread
returns-in_err-push-clause-unread g c =
    let p = err_from_is_err_and c.from_residual-in_err-push.result
    c.from_residual-in_err-push.ensures.1 in
    rw (p.1, p.2) (inl (
      refl,
      HasReadSome-taken c.args.paths.now (c.loop-index.index + 1) _ _ _
          (one-more-read c.args.paths.now c.loop-index.index _ c.loop-index-test.true
          (map string_bytes c.loop-index.contents.items) _ _ _ c.loop-index.invariant
          (string_bytes c.in_ok-content.content) _ c.in_ok-content.ensures.read refl),
    ))

pub returns-in_err-contents-clause-unread : goal.returns-in_err-contents-clause-unread
returns-in_err-contents-clause-unread g c =
    let p = err_from_is_err_and c.from_residual.result c.from_residual.ensures.1 in
    rw (p.1, p.2) (inl (
      refl,
      record {
        some = [];
        others = texts c.args.paths.now;
        contents = [];
        split = refl;
        read = none-read _ _ refl;
      },
    ))
