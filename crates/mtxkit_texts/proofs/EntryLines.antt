-- The text of a pattern is written line by line.
use Rattle.std.proofs.Common.{◌≡◌, ℕ, List, [], ◌∷◌, ◌++◌, sym, ap, ◌∙◌, append_assoc, append-nil}
use Rattle.std.specs.List.{flat_map}
use Rattle.std.proofs.lemmas.List.Concat.{flat_map-append}
use Rattle.sparse_pattern.specs.Raw.{Raw, entries_of}
use Rattle.mtxkit_texts.specs.PatternTexts.{entry_line, pattern_head, pattern_text}

module _ (d : Raw) where
  abbrev lines : List (ℕ × ℕ) → List ℕ
  lines places = flat_map entry_line places

  -- the lines above the entries, and the lines of the entries before those in `left`
  pub record IsBegun (bytes : List ℕ) (left : List (ℕ × ℕ)) : Type 0 where
    pub leading : List (ℕ × ℕ)
    pub order : entries_of d ≡ leading ++ left
    pub is : bytes ≡ pattern_head d ++ lines leading

  pub IsBegun-none : (bytes : List ℕ) (left : List (ℕ × ℕ)) → bytes ≡ pattern_head d
      → left ≡ entries_of d
      → IsBegun bytes left
  IsBegun-none bytes left b l = record {
    leading = [];
    order = sym l;
    is = b ∙ sym (append-nil (pattern_head d));
  }

  pub IsBegun-more : (bytes : List ℕ) (p : ℕ × ℕ) (left left' : List (ℕ × ℕ)) → IsBegun bytes left
      → left ≡ p ∷ left'
      → IsBegun (bytes ++ entry_line p) left'
  IsBegun-more bytes p left left' b e =
      record {
        leading = b.leading ++ p ∷ [];
        order = b.order ∙ ap (λ ps. b.leading ++ ps) e ∙ sym (append_assoc b.leading (p ∷ []) left');
        is = ap (λ l. l ++ entry_line p) b.is
            ∙ append_assoc (pattern_head d) (lines b.leading) (entry_line p)
            ∙ ap (λ l. pattern_head d ++ (lines b.leading ++ l)) (sym (append-nil (entry_line p)))
            ∙ ap (λ l. pattern_head d ++ l)
            (sym (flat_map-append entry_line b.leading (p ∷ [])));
      }

  pub IsBegun-all : (bytes : List ℕ) (left : List (ℕ × ℕ)) → IsBegun bytes left → left ≡ []
      → bytes ≡ pattern_text d
  IsBegun-all bytes left b none =
      b.is ∙ ap (λ ps. pattern_head d ++ lines ps)
      (sym (append-nil b.leading) ∙ ap (λ ps. b.leading ++ ps) (sym none) ∙ sym b.order)
