use Rattle.std.proofs.Common.{◌≡◌, ℕ, List, [], ◌∷◌, true, sym, ap, ◌∙◌}
use Rattle.sparse_parser.specs.declared.header.Format.{Format}
use Rattle.sparse_parser.specs.declared.header.Format.TheVariants.{Coordinate}
use Rattle.sparse_parser.specs.Grammar.{is_size}
use Rattle.sparse_parser.specs.Meaning.{numbers_of_size}
use Rattle.reference_models.specs.InnerTexts.{texts}
use Rattle.reference_models.proofs.texts.sizes.numbers.Goals as goal

-- a size line has no fourth word
three_words : (words : List (List ℕ)) (a b c : List ℕ) (rest : List (List ℕ))
    → words ≡ a ∷ (b ∷ (c ∷ rest)) → is_size words ≡ true → words ≡ a ∷ (b ∷ (c ∷ []))
unfolding is_size
three_words words a b c [] e h = e
three_words words a b c (d ∷ rest) e h = let f = rw e at h in cc

pub returns-in-Coordinate : goal.returns-in-Coordinate
returns-in-Coordinate c =
    let words = texts c.args.words.now in
    let all = c.in-Some.ensures ∙ ap (λ (ws : List (List ℕ)). c.in-Some.rows.now ∷ ws)
    (c.in-Some-first_word.ensures ∙ ap (λ (ws : List (List ℕ)). c.in-Some-first_word.cols.now
    ∷ ws) c.in-Some-first_word-2.ensures) in
    c.coordinate_sizes.ensures c.args.symmetry
    ∙ sym (ap (λ (f : Format). numbers_of_size f c.args.symmetry words) c.in-Coordinate.is
    ∙ ap (numbers_of_size Coordinate c.args.symmetry) (three_words words _ _ _ _ all c.requires))
