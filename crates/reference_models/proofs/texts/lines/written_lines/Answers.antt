use Rattle.std.proofs.Common.{◌≡◌, List, ℕ, [], ◌∷◌, ◌++◌, ap, refl, ◌∙◌, length, vec_len}
use Rattle.std.proofs.Common.{arith}
use Rattle.sparse_parser.specs.InnerReading.{written_of, written_lines}
use denote.Ref.{Bor}
use Rattle.reference_models.specs.InnerTexts.{texts, lines_in}
use Rattle.reference_models.proofs.TextLines.{lines_push, some_words, no_words, text_some, text_none}
use Rattle.reference_models.proofs.TextLines.{text_all}
use Rattle.reference_models.proofs.texts.lines.written_lines.Goals as goal
use Rattle.reference_models.proofs.texts.lines.written_lines.Goals.{then-not-is_empty+in_ok-push}
use Rattle.reference_models.proofs.texts.lines.written_lines.Goals.{else-not-is_empty}

pub loop-line-preserved : goal.loop-line-preserved
loop-line-preserved c =
    let lines = c.deref-line-items.result.now in
    let words = c.in_ok-words.words in
    let long : vec_len words ≡ length words.items = omega (arith, words.ok.0) in
    elim c.if-not-is_empty.branch [
      | then-not-is_empty+in_ok-push w ↦
          let some = some_words words.items (vec_len words) c.is_empty.result c.is_empty.ensures
          long w.if-not-is_empty.true in
          rw w.written-is (ap lines_in w.in_ok-push.ensures.items
          ∙ lines_push c.loop-line.written.items (record { words = words })
          ∙ ap (λ (ls : List (List (List ℕ))). ls ++ texts words.items ∷ []) c.loop-line.invariant
          ∙ text_some lines c.loop-line.line-index _ (texts words.items) refl c.loop-line-test.true
          c.in_ok-words.ensures some)
      | else-not-is_empty w ↦
          let none = no_words words.items (vec_len words) c.is_empty.result c.is_empty.ensures long
          w.if-not-is_empty.false in
          rw w.written-is (c.loop-line.invariant
          ∙ text_none lines c.loop-line.line-index _ (texts words.items) refl c.loop-line-test.true
          c.in_ok-words.ensures none)
    ]

pub returns : goal.returns
unfolding written_of
returns c =
    c.loop-line.invariant
    ∙ ap written_lines (text_all c.deref-line-items.result.now c.loop-line.line-index
    c.loop-line-test.false)
    ∙ ap (λ (ls : List (Bor (List ℕ))). written_lines (texts ls)) c.deref-line-items.ensures.value
    ∙ ap written_lines c.in_ok-lines.ensures
