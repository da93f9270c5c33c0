use Rattle.std.proofs.Common.{◌≡◌, true, false, sym, ap, ◌∙◌}
use Rattle.sparse_parser.specs.Grammar.{is_entry}
use Rattle.reference_models.specs.InnerTexts.{texts, words_in}
use Rattle.reference_models.proofs.TextLines.{all_more, all_refused}
use Rattle.reference_models.proofs.texts.grammar.all_entries.Goals as goal

pub returns-then-not-is_entry : goal.returns-then-not-is_entry
returns-then-not-is_entry c =
    let fails : is_entry (words_in c.line-item.result) ≡ false =
    ap (λ ws. is_entry (texts ws)) (sym c.deref.ensures.value) ∙ sym c.is_entry.ensures
    ∙ c.if-not-is_entry.true in
    all_refused c.args.lines.now c.loop-line.line-index c.line-item.result c.loop-line-test.true
    c.line-item.is fails

pub loop-line-preserved : goal.loop-line-preserved
loop-line-preserved c =
    let passes : is_entry (words_in c.line-item.result) ≡ true =
    ap (λ ws. is_entry (texts ws)) (sym c.deref.ensures.value) ∙ sym c.is_entry.ensures
    ∙ c.if-not-is_entry.false in
    all_more c.args.lines.now c.loop-line.line-index c.line-item.result c.loop-line-test.true
    c.line-item.is passes ∙ c.loop-line.invariant
