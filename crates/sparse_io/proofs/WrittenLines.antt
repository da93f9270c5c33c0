-- The words of a written line, and the lines of a written text.
use Rattle.std.proofs.Common.{◌≡◌, ℕ, ◌^◌, ◌<◌, true, List, [], ◌∷◌, ◌++◌, Ok, refl, sym, ap}
use Rattle.std.proofs.Common.{subst, append_assoc, append-nil, arith, inl, inr}
use Rattle.std.specs.Prelude.{◌⊎◌}
use Rattle.std.specs.Fmt.{decimal}
use Rattle.std.proofs.lemmas.Bool.{lt-ltb}
use Rattle.sparse_parser.specs.Grammar.{IsOneLine, AreLines, AreWords, AreBlanks, is_index}
use Rattle.sparse_parser.specs.Meaning.{number_of}
use Rattle.sparse_parser.proofs.WrittenWords.{IsText, index_text, unblank, unended, plain_text}
use Rattle.sparse_market_scalar.specs.IntegerTexts.{decimal-index, decimal-value}

-- ---- the numbers of a written text

small_decimal : (n : ℕ) → n < 2 ^ 64 → n < 10 ^ 64
small_decimal n lt = omega arith

pub index-decimal : (n : ℕ) → n < 2 ^ 64 → is_index (decimal n) ≡ true
index-decimal n lt = decimal-index n (small_decimal n lt)

pub decimal_text : (n : ℕ) → n < 2 ^ 64 → IsText (decimal n)
decimal_text n lt = index_text (decimal n) (index-decimal n lt)

pub number-decimal : (n : ℕ) → n < 2 ^ 64 → number_of (decimal n) ≡ Ok n
unfolding number_of
number-decimal n lt = rw (decimal-value n (small_decimal n lt), lt-ltb n (2 ^ 64) lt) refl

-- ---- a line of two words and a text

-- two words, and a text that may be empty
abbrev pub line_of : List ℕ → List ℕ → List ℕ → List ℕ
line_of a b c = a ++ (32 ∷ (b ++ (32 ∷ c)))

abbrev words_with : List ℕ → List ℕ → List (List ℕ) → List (List ℕ)
words_with a b ws = a ∷ b ∷ ws

-- the words of the last text: itself, or none if it is empty
abbrev pub IsLast : List ℕ → List (List ℕ) → Type 0
IsLast c ws = (IsText c × (ws ≡ c ∷ [])) ⊎ ((c ≡ []) × (ws ≡ []))

last_words : (c : List ℕ) (ws : List (List ℕ)) → IsLast c ws → AreWords (32 ∷ c) ws
last_words c ws (inl (t, e)) = subst (AreWords (32 ∷ c)) (sym e) (
  32 ∷ [],
  [],
  (refl, tt),
  t.some,
  unblank c t.solid,
  ap (λ (x : List ℕ). 32 ∷ x) (sym (append-nil c)),
  tt,
  tt,
)
last_words c ws (inr (n, e)) = subst (AreWords (32 ∷ c)) (sym e)
    (subst (λ (x : List ℕ). AreBlanks (32 ∷ x)) (sym n) (refl, tt))

pub line_words : (a b c : List ℕ) (ws : List (List ℕ)) → IsText a → IsText b → IsLast c ws
    → AreWords (line_of a b c) (words_with a b ws)
line_words a b c ws s t l = (
  [],
  32 ∷ (b ++ (32 ∷ c)),
  tt,
  s.some,
  unblank a s.solid,
  refl,
  refl,
  (32 ∷ [], 32 ∷ c, (refl, tt), t.some, unblank b t.solid, refl, refl, last_words c ws l),
)

last_plain : (c : List ℕ) (ws : List (List ℕ)) → IsLast c ws → IsOneLine c
last_plain c ws (inl (t, e)) = plain_text c t.solid
last_plain c ws (inr (n, e)) = subst IsOneLine (sym n) tt

pub line_plain : (a b c : List ℕ) (ws : List (List ℕ)) → IsText a → IsText b → IsLast c ws
    → IsOneLine (line_of a b c)
line_plain a b c ws s t l = unended a (32 ∷ (b ++ (32 ∷ c))) s.solid
    (refl, unended b (32 ∷ c) t.solid (refl, last_plain c ws l))

pub line_before : (a b c rest : List ℕ) → (a ++ (32 ∷ (b ++ (32 ∷ (c ++ (10 ∷ [])))))) ++ rest ≡ line_of
    a b c ++ (10 ∷ rest)
line_before a b c rest = simp append_assoc

-- a line before LF, and the lines after it
pub before_lf : (line text rest : List ℕ) (lines : List (List ℕ)) → IsOneLine line
    → text ≡ line ++ (10 ∷ rest) → AreLines rest lines → AreLines text (line ∷ lines)
before_lf line text rest lines plain e h = (plain, inr (10 ∷ [], rest, inl refl, e, h))
