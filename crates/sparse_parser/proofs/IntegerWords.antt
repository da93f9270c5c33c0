-- When the first word of a line is an integer, and the value of its digits.
use Rattle.std.proofs.Common.{◌≡◌, ◌≢◌, ℕ, ◌+◌, ◌^◌, ◌<◌, ◌&&◌, ◌||◌, Bool, true, false, eqb, List}
use Rattle.std.proofs.Common.{[], ◌∷◌, ◌++◌, length, Option, None, refl, sym, ap, subst, ◌∙◌, arith}
use Rattle.std.proofs.Common.{inl, inr, length-append}
use Rattle.std.specs.Prelude.{◌⊎◌, IsTrue}
use Rattle.std.specs.Option.{SomeIff}
use Rattle.std.specs.Char.{is_ascii_digit}
use Rattle.std.specs.Str.Parse.{digits_value, without_leading_sign}
use Rattle.std.proofs.lemmas.List.{nil_from_length}
use Rattle.std.proofs.lemmas.Bool.Decides.{nat_tests}
use Rattle.sparse_parser.specs.declared.data_lines.NumberKind.{NumberKind}
use Rattle.sparse_parser.specs.declared.data_lines.NumberKind.TheVariants.{Index, Signed, Other}
use Rattle.sparse_parser.specs.Bytes.{leading, after}
use Rattle.sparse_parser.specs.InnerBytes.{is_solid}
use Rattle.sparse_parser.specs.Grammar.{is_index, is_integer, is_number}
use Rattle.sparse_parser.specs.InnerLines.{IsNumberOf, IsWord, ends_word, is_plain, is_whole}
use Rattle.sparse_parser.proofs.LeadingBytes.{Passes, IsStopped, Passes-leading, IsStopped-after}
use Rattle.sparse_parser.proofs.LeadingBytes.{leading-append-after, after-append}
use Rattle.sparse_parser.proofs.ByteClasses.{digit_solid, sign_solid, sign_no_digit}
use Rattle.sparse_parser.proofs.ByteClasses.{unsolid_no_digit, Passes-weaker, Passes-append}
use Rattle.sparse_parser.proofs.EntryLaws.{sign_of, sign_of-append, value_word, value_word-append}
use Rattle.sparse_parser.proofs.EntryLaws.{value_word-is_integer, value_word-number, some_value}
use Rattle.sparse_parser.proofs.NumberLaws.{digits-of, integer-number, index-integer}
use Rattle.sparse_parser.proofs.NumberLaws.{index-unsigned, false-before}
use Rattle.sparse_parser.proofs.FirstWord.{word_first, stops_word}

-- ---- the digits after a sign

sign_passes : (text : List ℕ) → Passes is_solid (sign_of text)
sign_passes [] = tt
sign_passes (b ∷ text) = by (eqb b 43 || eqb b 45) refl
  where
    by : (t : Bool) → (eqb b 43 || eqb b 45) ≡ t → Passes is_solid (sign_of (b ∷ text))
    by true e = rw e (sign_solid b e, tt)
    by false e = rw e tt

value-passes : (text : List ℕ) → Passes is_solid (value_word text)
value-passes text = Passes-append is_solid (sign_of text) _ (sign_passes text)
    (Passes-weaker is_ascii_digit is_solid _ digit_solid
    (Passes-leading is_ascii_digit (without_leading_sign text)))

length-second : (s t : List ℕ) → 0 < length t → 0 < length (s ++ t)
length-second s t lt = let e = length-append s t in omega arith

-- a word of a sign and digits, the value of the digits, and the text after the word
pub record AreDigits (text unsigned rest word : List ℕ) (digits : Option ℕ) : Type 0 where
  pub unsigned_is : unsigned ≡ without_leading_sign text
  pub rest_is : rest ≡ after is_ascii_digit unsigned
  pub some : length rest ≢ length unsigned
  pub ends : ends_word rest ≡ true
  pub word_is : word ≡ value_word text
  pub number : SomeIff digits (digits_value 10 (leading is_ascii_digit unsigned) < 2 ^ 64)
      (digits_value 10 (leading is_ascii_digit unsigned))

pub integer_word : (text unsigned rest word : List ℕ) (digits : Option ℕ)
    → AreDigits text unsigned rest word digits → IsWord text word rest
integer_word text unsigned rest word digits h =
    let i = some_value text unsigned rest h.unsigned_is h.rest_is h.some in
    let lt = length-second (sign_of text) _ (digits-of _ i).0 in
    let w = word_first (value_word text) rest lt (value-passes text) h.ends in
    let same : value_word text ++ rest ≡ text = ap (λ (t : List ℕ). value_word text ++ t)
    (h.rest_is ∙ ap (after is_ascii_digit) h.unsigned_is) ∙ value_word-append text in
    subst (λ (t : List ℕ). IsWord t word rest) same
    (subst (λ (v : List ℕ). IsWord (value_word text ++ rest) v rest) (sym h.word_is) w)

no_sign : (text : List ℕ) → length (without_leading_sign text) ≡ length text → sign_of text ≡ []
no_sign text e = nil_from_length (sign_of text)
    (let l : length (sign_of text) + length (without_leading_sign text) ≡ length text =
    sym (length-append (sign_of text) (without_leading_sign text))
    ∙ ap length (sign_of-append text) in omega arith)

pub plain_number : (text unsigned rest word : List ℕ) (digits : Option ℕ)
    → AreDigits text unsigned rest word digits → length unsigned ≡ length text
    → IsNumberOf word digits Index
plain_number text unsigned rest word digits h e =
    let i = value_word-is_integer text unsigned rest word h.unsigned_is h.rest_is h.some
    h.word_is in
    let s = no_sign text (ap length (sym h.unsigned_is) ∙ e) in
    let w : word ≡ leading is_ascii_digit (without_leading_sign text) = h.word_is
    ∙ ap (λ (x : List ℕ). x ++ leading is_ascii_digit (without_leading_sign text)) s in
    record {
      number = integer-number word i;
      index = ap is_index w ∙ some_value text unsigned rest h.unsigned_is h.rest_is h.some;
      integer = i;
      digits_are = λ _. value_word-number text unsigned word digits h.unsigned_is h.number
          h.word_is;
    }

no_index_first : (b : ℕ) (word : List ℕ) → is_ascii_digit b ≡ false → is_index (b ∷ word) ≡ false
no_index_first b word e = rw e (by _)
  where
    by : (t : Bool) → (t && false) ≡ false
    by true = refl
    by false = refl

signed_no_index : (text : List ℕ) → length (without_leading_sign text) ≢ length text
    → is_index (value_word text) ≡ false
signed_no_index [] n = absurd (n refl)
signed_no_index (b ∷ text) n = by (eqb b 43 || eqb b 45) refl
  where
    none_is : (eqb b 43 || eqb b 45) ≡ false → without_leading_sign (b ∷ text) ≡ b ∷ text
    none_is e = grind (arith, nat_tests)

    by : (t : Bool) → (eqb b 43 || eqb b 45) ≡ t → is_index (value_word (b ∷ text)) ≡ false
    by true e =
        let w : value_word (b ∷ text) ≡ b ∷ leading is_ascii_digit (without_leading_sign (b ∷ text)) =
        rw e refl in
        ap is_index w ∙ no_index_first b _ (sign_no_digit b e)
    by false e = absurd (n (ap length (none_is e)))

pub signed_number : (text unsigned rest word : List ℕ) (digits : Option ℕ)
    → AreDigits text unsigned rest word digits → length unsigned ≢ length text
    → IsNumberOf word digits Signed
signed_number text unsigned rest word digits h n =
    let i = value_word-is_integer text unsigned rest word h.unsigned_is h.rest_is h.some
    h.word_is in
    record {
      number = integer-number word i;
      index = ap is_index h.word_is ∙ signed_no_index text (λ e. n (ap length h.unsigned_is ∙ e));
      integer = i;
      digits_are = λ _. value_word-number text unsigned word digits h.unsigned_is h.number
          h.word_is;
    }

-- ---- when the first word is no integer

-- a sign is removed from a word in the same way if more text follows the word
sign-split : (word next : List ℕ) → is_integer word ≡ true
    → without_leading_sign (word ++ next) ≡ without_leading_sign word ++ next
sign-split [] next i = absurd cc
sign-split (b ∷ word) next i = by (eqb b 45) (eqb b 43) refl refl
  where
    by : (minus plus : Bool) → eqb b 45 ≡ minus → eqb b 43 ≡ plus
        → without_leading_sign (b ∷ (word ++ next)) ≡ without_leading_sign (b ∷ word) ++ next
    by true plus m p = rw m refl
    by false true m p = rw (m, p) refl
    by false false m p = rw (m, p) refl

stops_digits : (next : List ℕ) → IsStopped is_solid next → IsStopped is_ascii_digit next
stops_digits [] stop = tt
stops_digits (b ∷ next) stop = unsolid_no_digit b stop

pub no_integer : (text unsigned rest : List ℕ) → unsigned ≡ without_leading_sign text
    → rest ≡ after is_ascii_digit unsigned
    → (length rest ≡ length unsigned) ⊎ (ends_word rest ≡ false)
    → is_integer (leading is_solid text) ≡ false
no_integer text unsigned rest u r wrong = by (is_integer (leading is_solid text)) refl
  where
    by : (t : Bool) → is_integer (leading is_solid text) ≡ t
        → is_integer (leading is_solid text) ≡ false
    by false i = i
    by true i =
        let word = leading is_solid text in
        let next = after is_solid text in
        let d = digits-of (without_leading_sign word) i in
        let stop = IsStopped-after is_solid text in
        let s : unsigned ≡ without_leading_sign word ++ next = u
        ∙ ap without_leading_sign (sym (leading-append-after is_solid text))
        ∙ sign-split word next i in
        let a : rest ≡ next = r ∙ ap (after is_ascii_digit) s
        ∙ after-append is_ascii_digit (without_leading_sign word) next d.1
        (stops_digits next stop) in
        absurd (elim wrong [
          | inl e ↦ let l : length unsigned ≡ length (without_leading_sign word) + length next =
              ap length s ∙ length-append (without_leading_sign word) next in let m : length rest
              ≡ length next = ap length a in let lt = d.0 in omega arith
          | inr e ↦ let f : ends_word rest ≡ true = ap ends_word a ∙ stops_word next stop in cc
        ])

pub other_is : (word : List ℕ) → is_number word ≡ true → is_integer word ≡ false
    → IsNumberOf word None Other
other_is word n i = record {
  number = n;
  index = false-before (is_index word) (is_integer word) (index-integer word) i;
  integer = i;
  digits_are = λ e. absurd cc;
}

-- an index has no sign, so the value of its digits is its number
pub index_digits : (word : List ℕ) (digits : Option ℕ) (kind : NumberKind)
    → IsNumberOf word digits kind → is_plain kind ≡ true → SomeIff digits (digits_value 10 word < 2 ^ 64) (digits_value 10 word)
index_digits word digits kind h p =
    subst (λ (w : List ℕ). SomeIff digits (digits_value 10 w < 2 ^ 64) (digits_value 10 w))
    (index-unsigned word (h.index ∙ p)) (h.digits_are (whole kind p))
  where
    whole : (kind : NumberKind) → is_plain kind ≡ true → IsTrue (is_whole kind)
    whole Index p = refl
    whole Signed p = refl
    whole Other p = absurd cc
