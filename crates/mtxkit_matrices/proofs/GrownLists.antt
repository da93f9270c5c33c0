-- Lists of scaled lines, and contents, that grow by one line.
use Rattle.std.proofs.Common.{◌≡◌, ℕ, List, [], ◌∷◌, ◌++◌, refl, inl, inr, append-nil}
use Rattle.std.specs.Prelude.{filter}
use Rattle.std.proofs.lemmas.List.Elements.{filter-append}
use Rattle.sparse_parser.specs.declared.header.Format.{Format}
use Rattle.sparse_parser.specs.InnerReading.{is_content}
use Rattle.sparse_faults.proofs.LineLists.{ones}
use Rattle.mtxkit_matrices.specs.ScaledTexts.{IsScaledEntry, AreScaled}
use Rattle.mtxkit_matrices.specs.InnerRewriting.{AreBlankOrComment}

-- a blank line or a comment adds no contents
pub nothing-more : (xs : List (List (List ℕ))) (words : List (List ℕ)) → AreBlankOrComment words
    → filter is_content (xs ++ ones words) ≡ filter is_content xs
nothing-more xs words s = rw (filter-append is_content xs (ones words), none words s)
    (append-nil (filter is_content xs))
  where
    none : (words : List (List ℕ)) → AreBlankOrComment words → filter is_content (ones words) ≡ []
    none [] h = refl
    none (word ∷ words) (inl e) = absurd cc
    none (word ∷ words) (inr e) = rw e refl

pub scaled_more : (scale : ℕ) (format : Format) (xs ys : List (List (List ℕ))) (x y : List (List ℕ))
    → AreScaled scale format xs ys → IsScaledEntry scale format x y
    → AreScaled scale format (xs ++ (x ∷ [])) (ys ++ (y ∷ []))
scaled_more scale format [] [] x y h e = (e, tt)
scaled_more scale format [] (b ∷ ys) x y h e = absurd h
scaled_more scale format (a ∷ xs) [] x y h e = absurd h
scaled_more scale format (a ∷ xs) (b ∷ ys) x y h e =
    (h.0, scaled_more scale format xs ys x y h.1 e)
