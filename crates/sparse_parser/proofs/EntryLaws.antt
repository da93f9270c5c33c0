-- A leading sign and the digits after it: the word of an integer.
use Rattle.std.proofs.Common.{◌≡◌, ◌≢◌, ℕ, ◌+◌, ◌-◌, ◌^◌, ◌≤◌, ◌<◌, Bool, true, false, ltb, eqb}
use Rattle.std.proofs.Common.{cond, ◌||◌, List, [], ◌∷◌, ◌++◌, length, take, Option, Some, None}
use Rattle.std.proofs.Common.{Result, Err, refl, sym, ap, subst, ◌∙◌, arith, append_assoc}
use Rattle.std.proofs.Common.{length-append}
use Rattle.std.specs.Option.{SomeIff, ok_or}
use Rattle.std.specs.List.{list_all}
use Rattle.std.specs.Char.{is_ascii_digit}
use Rattle.std.specs.Str.Parse.{digits_value, without_leading_sign}
use Rattle.std.proofs.lemmas.Bool.{lt-ltb, ltb-true}
use Rattle.std.proofs.lemmas.List.{take_at}
use Rattle.sparse_parser.specs.declared.error.Cause.{Cause}
use Rattle.sparse_parser.specs.declared.error.MatrixMarketErrorKind.{MatrixMarketErrorKind}
use Rattle.sparse_parser.specs.declared.error.MatrixMarketErrorKind.TheVariants.{ParsingError}
use Rattle.sparse_parser.specs.Errors.{kind_of_cause}
use Rattle.sparse_parser.specs.Bytes.{leading, after}
use Rattle.sparse_parser.specs.Grammar.{is_index, is_integer}
use Rattle.sparse_parser.specs.Meaning.{number_of}
use Rattle.sparse_parser.specs.InnerReading.{found, found_number}
use Rattle.sparse_parser.proofs.LeadingBytes.{Passes, Passes-leading, leading-append-after}

length-leading-after : (p : ℕ → Bool) (text : List ℕ)
    → length (leading p text) + length (after p text) ≡ length text
length-leading-after p text = sym (length-append (leading p text) (after p text))
    ∙ ap length (leading-append-after p text)

pub some_leading : (p : ℕ → Bool) (text : List ℕ) → length (after p text) ≢ length text
    → 0 < length (leading p text)
some_leading p text n = let l = length-leading-after p text in omega (arith, n)

pub list_all-passes : (p : ℕ → Bool) (text : List ℕ) → Passes p text → list_all p text ≡ true
list_all-passes p [] h = refl
list_all-passes p (b ∷ text) h = rw (h.0, list_all-passes p text h.1) refl

pub is_index-leading : (text : List ℕ) → 0 < length (leading is_ascii_digit text)
    → is_index (leading is_ascii_digit text) ≡ true
is_index-leading text lt = rw (
  lt-ltb 0 (length (leading is_ascii_digit text)) lt,
  list_all-passes is_ascii_digit (leading is_ascii_digit text) (Passes-leading is_ascii_digit text),
)
    refl

-- the value that a function found is the number of the word
pub found-number : (word : List ℕ) (n : Option ℕ) → SomeIff n (digits_value 10 word < 2 ^ 64)
    (digits_value 10 word) → found_number n ≡ number_of word
unfolding number_of
found-number word (Some n) h = rw (lt-ltb _ _ h.0, h.1) refl
found-number word None h = by (ltb (digits_value 10 word) (2 ^ 64)) refl
  where
    by : (t : Bool) → ltb (digits_value 10 word) (2 ^ 64) ≡ t → found_number None ≡ number_of word
    by true e = absurd (h (ltb-true _ _ e))
    by false e = rw e refl

-- ---- the word of an integer

-- the leading sign of a text, or nothing
abbrev pub sign_of : List ℕ → List ℕ
sign_of [] = []
sign_of (b ∷ text) = cond (eqb b 43 || eqb b 45) (b ∷ []) []

pub sign_of-append : (text : List ℕ) → sign_of text ++ without_leading_sign text ≡ text
sign_of-append [] = refl
sign_of-append (b ∷ text) = by (eqb b 45) (eqb b 43) refl refl
  where
    by : (minus plus : Bool) → eqb b 45 ≡ minus → eqb b 43 ≡ plus
        → sign_of (b ∷ text) ++ without_leading_sign (b ∷ text) ≡ b ∷ text
    by true true m p = rw (m, p) refl
    by true false m p = rw (m, p) refl
    by false true m p = rw (m, p) refl
    by false false m p = rw (m, p) refl

-- the leading sign of a text and the digits after it
abbrev pub value_word : List ℕ → List ℕ
value_word text = sign_of text ++ leading is_ascii_digit (without_leading_sign text)

pub without_leading_sign-value_word : (text : List ℕ)
    → without_leading_sign (value_word text) ≡ leading is_ascii_digit (without_leading_sign text)
without_leading_sign-value_word [] = refl
without_leading_sign-value_word (b ∷ text) = by (eqb b 45) (eqb b 43) (is_ascii_digit b) refl refl
    refl
  where
    by : (minus plus digit : Bool) → eqb b 45 ≡ minus → eqb b 43 ≡ plus → is_ascii_digit b ≡ digit
        → without_leading_sign (value_word (b ∷ text)) ≡ leading is_ascii_digit
        (without_leading_sign (b ∷ text))
    by true plus d m p e =
        let s : sign_of (b ∷ text) ≡ b ∷ [] = both_signs plus p in
        let w : value_word (b ∷ text) ≡ b ∷ leading is_ascii_digit text = rw (s, m) refl in
        let f : leading is_ascii_digit (without_leading_sign (b ∷ text)) ≡ leading is_ascii_digit text =
        rw m refl in
        let k : without_leading_sign (b ∷ leading is_ascii_digit text) ≡ leading is_ascii_digit text =
        rw m refl in
        ap without_leading_sign w ∙ k ∙ sym f
      where
        both_signs : (plus : Bool) → eqb b 43 ≡ plus → sign_of (b ∷ text) ≡ b ∷ []
        both_signs true p = rw p refl
        both_signs false p = rw (p, m) refl
    by false true d m p e =
        let w : value_word (b ∷ text) ≡ b ∷ leading is_ascii_digit text = rw (p, m) refl in
        let f : leading is_ascii_digit (without_leading_sign (b ∷ text)) ≡ leading is_ascii_digit text =
        rw (m, p) refl in
        let k : without_leading_sign (b ∷ leading is_ascii_digit text) ≡ leading is_ascii_digit text =
        rw (m, p) refl in
        ap without_leading_sign w ∙ k ∙ sym f
    by false false true m p e =
        let w : value_word (b ∷ text) ≡ b ∷ leading is_ascii_digit text = rw (m, p, e) refl in
        let f : leading is_ascii_digit (without_leading_sign (b ∷ text)) ≡ b ∷ leading is_ascii_digit
        text = rw (m, p, e) refl in
        let k : without_leading_sign (b ∷ leading is_ascii_digit text) ≡ b ∷ leading is_ascii_digit
        text = rw (m, p) refl in
        ap without_leading_sign w ∙ k ∙ sym f
    by false false false m p e =
        let w : value_word (b ∷ text) ≡ [] = rw (m, p, e) refl in
        let f : leading is_ascii_digit (without_leading_sign (b ∷ text)) ≡ [] = rw (m, p, e) refl in
        ap without_leading_sign w ∙ sym f

pub value_word-append : (text : List ℕ)
    → value_word text ++ after is_ascii_digit (without_leading_sign text) ≡ text
value_word-append text =
    append_assoc (sign_of text) _ _ ∙ ap (λ (t : List ℕ). sign_of text ++ t)
    (leading-append-after is_ascii_digit (without_leading_sign text)) ∙ sign_of-append text

pub value_word-is : (text digits after' : List ℕ) → digits ≡ without_leading_sign text
    → after' ≡ after is_ascii_digit digits
    → (length after' ≤ length text) × (take (length text - length after') text ≡ value_word text)
value_word-is text digits after' d a =
    let e : value_word text ++ after' ≡ text = ap (λ (t : List ℕ). value_word text ++ t)
    (a ∙ ap (after is_ascii_digit) d) ∙ value_word-append text in
    let l : length (value_word text) + length after' ≡ length text =
    sym (length-append (value_word text) after') ∙ ap length e in (
      omega arith,
      ap (take (length text - length after')) (sym e)
          ∙ take_at (value_word text) after' (length text - length after') (omega arith),
    )

pub some_value : (text digits digits' : List ℕ) → digits ≡ without_leading_sign text
    → digits' ≡ after is_ascii_digit digits → length digits' ≢ length digits
    → is_index (leading is_ascii_digit (without_leading_sign text)) ≡ true
some_value text digits digits' d a n = is_index-leading (without_leading_sign text)
    (some_leading is_ascii_digit (without_leading_sign text)
    (λ e. n (ap length (a ∙ ap (after is_ascii_digit) d) ∙ e ∙ ap length (sym d))))

pub value_word-is_integer : (text digits digits' word : List ℕ) → digits ≡ without_leading_sign text
    → digits' ≡ after is_ascii_digit digits → length digits' ≢ length digits
    → word ≡ value_word text → is_integer word ≡ true
value_word-is_integer text digits digits' word d a n w =
    ap is_index (ap without_leading_sign w ∙ without_leading_sign-value_word text)
    ∙ some_value text digits digits' d a n

pub value_word-number : (text digits word : List ℕ) (n : Option ℕ)
    → digits ≡ without_leading_sign text
    → SomeIff n (digits_value 10 (leading is_ascii_digit digits) < 2 ^ 64)
    (digits_value 10 (leading is_ascii_digit digits))
    → word ≡ value_word text
    → SomeIff n (digits_value 10 (without_leading_sign word) < 2 ^ 64)
    (digits_value 10 (without_leading_sign word))
value_word-number text digits word n d h w =
    let e : leading is_ascii_digit digits ≡ without_leading_sign word = ap (leading is_ascii_digit) d
    ∙ sym (ap without_leading_sign w ∙ without_leading_sign-value_word text) in
    subst (λ (ds : List ℕ). SomeIff n (digits_value 10 ds < 2 ^ 64) (digits_value 10 ds)) e h

-- ---- a word that is an index

-- the result for an index is its number, or the parsing error of its cause
pub number_found : (word : List ℕ) (n : Option ℕ) (r : Result ℕ Cause) (cause : Cause)
    → SomeIff n (digits_value 10 word < 2 ^ 64) (digits_value 10 word) → r ≡ ok_or n cause
    → kind_of_cause cause ≡ ParsingError → found r ≡ number_of word
number_found word n r cause h e k = ap found e ∙ by n ∙ found-number word n h
  where
    by : (n : Option ℕ) → found (ok_or n cause) ≡ found_number n
    by None = ap (λ (x : MatrixMarketErrorKind). Err x) k
    by (Some n) = refl
