use Rattle.sparse_parser.specs.Grammar.{is_entry}
use Rattle.std.proofs.Common.{ℕ, List, ◌∷◌, ap, ◌∙◌, subst, inl, inr, rules}
use Rattle.sparse_parser.specs.InnerLines.{IsFound}
use Rattle.sparse_parser.proofs.LineShapes.{entry_nil, entry_fault_1, entry_fault_2}
use Rattle.sparse_parser.proofs.data_lines.data_line.Goals as goal

pub returns-in-End : goal.returns-in-End
returns-in-End c = elim c.in-End.is [
  | inl e ↦ entry_nil _ (subst (IsFound c.args.text.now) e.1 c.next_number.ensures).0
  | inr e ↦ let f = subst (IsFound c.args.text.now) e c.next_number.ensures in entry_fault_1 _ f.0
      f.1 f.2 f.3
]

pub returns-in-Fault : goal.returns-in-Fault
returns-in-Fault c =
    let f = c.in-Fault.ensures in
    let a = c.in-Number.ensures.1 in
    entry_fault_2 _ _ f.0 f.1 (a.words ∙ ap (λ (ws : List (List ℕ)). c.in-Number.a.word.now ∷ ws)
    f.2) f.3

pub returns-in-Number-next_number-4 : goal.returns-in-Number-next_number-4
unfolding is_entry
returns-in-Number-next_number-4 c = search rules
