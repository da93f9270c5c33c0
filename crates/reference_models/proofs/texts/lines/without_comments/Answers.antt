use Rattle.std.proofs.Common.{◌≡◌, List, ℕ, sym, ap, ◌∙◌, [], ◌∷◌, ◌++◌, take}
use Rattle.std.specs.Prelude.{filter}
use Rattle.sparse_parser.specs.InnerReading.{is_content}
use Rattle.reference_models.specs.InnerTexts.{texts, words_in, lines_in}
use Rattle.reference_models.proofs.TextLines.{lines_push, content_some, content_none}
use Rattle.reference_models.proofs.texts.lines.without_comments.Goals as goal
use Rattle.reference_models.proofs.texts.lines.without_comments.Goals.{then-is_content+in_ok-words+in_ok-push}
use Rattle.reference_models.proofs.texts.lines.without_comments.Goals.{else-is_content}

pub loop-line-preserved : goal.loop-line-preserved
loop-line-preserved c =
    let lines = c.args.lines.now in
    let line = c.line-item.result in
    let said = ap (λ ws. is_content (texts ws)) (sym c.deref.ensures.value)
    ∙ sym c.is_content.ensures in
    elim c.if-is_content.branch [
      | then-is_content+in_ok-words+in_ok-push w ↦
          let copied : texts w.in_ok-words.words.items ≡ words_in line =
          ap texts (w.in_ok-words.ensures.items ∙ w.deref-then-is_content.ensures.value) in
          rw w.contents-is (ap lines_in w.in_ok-push.ensures.items
          ∙ lines_push c.loop-line.contents.items (record { words = w.in_ok-words.words })
          ∙ ap (λ (ls : List (List (List ℕ))). ls ++ texts w.in_ok-words.words.items ∷ [])
          c.loop-line.invariant
          ∙ ap (λ (ws : List (List ℕ)). filter is_content
          (take c.loop-line.line-index (lines_in lines)) ++ ws ∷ []) copied
          ∙ sym (content_some lines c.loop-line.line-index line c.loop-line-test.true c.line-item.is
          (said ∙ w.if-is_content.true)))
      | else-is_content w ↦ rw w.contents-is (c.loop-line.invariant
          ∙ sym (content_none lines c.loop-line.line-index line c.loop-line-test.true c.line-item.is
          (said ∙ w.if-is_content.false)))
    ]
