-- Indices and integers, read one after the other from a line.
use Rattle.std.proofs.Common.{◌≡◌, ◌≢◌, ℕ, ℤ, pos, zero, suc, ◌^◌, ◌<◌, Bool, true, false, cond}
use Rattle.std.proofs.Common.{eqb, List, [], ◌∷◌, ◌++◌, length, Option}
use Rattle.std.proofs.Common.{Some, None, Ok, Err, refl, sym}
use Rattle.std.proofs.Common.{ap, subst, ◌∙◌, arith, ◌+◌, ◌-◌, ◌*◌, get_or, drop, length-drop}
use Rattle.std.proofs.lemmas.List.{drop_more}
use Rattle.std.specs.Prelude.{IsTrue, MatchOption}
use Rattle.std.specs.Option.{SomeIff}
use Rattle.std.specs.Char.{is_ascii_digit}
use Rattle.std.specs.Str.Parse.{digits_value, digits_value_after, starts_with_minus}
use Rattle.std.specs.Str.Parse.{without_leading_sign}
use Rattle.std.proofs.lemmas.Bool.{lt-ltb}
use Rattle.std.proofs.lemmas.Bool.Decides.{nat_tests}
use lib.IntN.{neg_ℤ}
use Rattle.sparse_parser.specs.declared.error.MatrixMarketErrorKind.TheVariants.{ParsingError}
use Rattle.sparse_parser.specs.Bytes.{is_blank, is_line_end, leading, after}
use Rattle.sparse_parser.specs.InnerBytes.{is_solid, is_space, is_within_line}
use Rattle.sparse_parser.specs.Grammar.{is_integer}
use Rattle.sparse_parser.specs.Scalars.{fits}
use Rattle.sparse_parser.specs.Meaning.{integer_of}
use Rattle.sparse_parser.specs.InnerReading.{line_words, ends_line}
use Rattle.sparse_parser.specs.InnerNumbers.{IsNumberRead}
use Rattle.sparse_parser.specs.declared.data_lines.NumberKind.{NumberKind}
use Rattle.sparse_parser.specs.InnerLines.{is_whole, IsDigitsValue, IsNumberOf, IsWord, ends_word}
use Rattle.sparse_parser.specs.InnerIntegers.{IsIndexAt, IsIntegerAt, IsEndAt, IsIntegerLine}
use Rattle.sparse_parser.specs.InnerIntegers.{IsLastIndex, IsLastNumber}
use Rattle.sparse_parser.specs.InnerIntegers.{IsPatternLine, IsValueLine}
use Rattle.sparse_parser.proofs.LeadingBytes.{Passes-leading, leading-append-after, leading-no, after-no}
use Rattle.sparse_parser.proofs.ByteClasses.{digit_solid, space_no_digit, Passes-weaker}
use Rattle.sparse_parser.proofs.EntryLaws.{some_leading, is_index-leading, found-number, value_word}
use Rattle.sparse_parser.proofs.EntryLaws.{value_word-is_integer, value_word-number}
use Rattle.sparse_parser.proofs.FirstWord.{word_first, word-after_blanks}
use Rattle.sparse_parser.proofs.IntegerWords.{AreDigits, integer_word}
use Rattle.sparse_parser.proofs.FirstWord.{words-after_blanks, line-after_blanks, line_ends}
use Rattle.sparse_parser.proofs.Digits.{digit_small}
use Rattle.sparse_parser.proofs.TextOffsets.{after_passed, digit_read}

-- a text that ends a word has no leading digit
no_digit : (rest : List ℕ) → ends_word rest ≡ true
    → (leading is_ascii_digit rest ≡ []) × (after is_ascii_digit rest ≡ rest)
no_digit [] e = (refl, refl)
no_digit (b ∷ rest) e = let d = space_no_digit b
    e in (leading-no is_ascii_digit b rest d, after-no is_ascii_digit b rest d)

-- the leading digits of a text were read, and a word ends after them
record IsDigitsRead (text : List ℕ) (number : ℕ) (rest : List ℕ) : Type 0 where
  value : number ≡ digits_value 10 (leading is_ascii_digit text)
  others : rest ≡ after is_ascii_digit text
  small : number < 2 ^ 64

all_read : (text rest : List ℕ) (number : ℕ) → IsNumberRead text number rest → ends_word rest ≡ true
    → IsDigitsRead text number rest
all_read text rest number r e =
    let n = no_digit rest e in
    record {
      value = sym (ap (digits_value_after 10 number) n.0) ∙ r.value;
      others = sym n.1 ∙ r.others;
      small = r.small;
    }

-- the leading digits of a text are a word if a blank, a line end or the end of the text follows
digits_word : (text rest : List ℕ) → rest ≡ after is_ascii_digit text → length rest ≢ length text
    → ends_word rest ≡ true → IsWord text (leading is_ascii_digit text) rest
digits_word text rest r some ends =
    let lt = some_leading is_ascii_digit text (λ e. some (ap length r ∙ e)) in
    let solid = Passes-weaker is_ascii_digit is_solid _ digit_solid
    (Passes-leading is_ascii_digit text) in
    let same : leading is_ascii_digit text ++ rest ≡ text =
    ap (λ (t : List ℕ). leading is_ascii_digit text ++ t) r
    ∙ leading-append-after is_ascii_digit text in
    subst (λ (t : List ℕ). IsWord t (leading is_ascii_digit text) rest) same
    (word_first (leading is_ascii_digit text) rest lt solid ends)

-- such digits are an index
pub index_first : (text rest : List ℕ) (number : ℕ) → IsNumberRead text number rest
    → length rest ≢ length text → ends_word rest ≡ true → IsIndexAt text number rest
index_first text rest number r some ends =
    let d = all_read text rest number r ends in
    record {
      word = leading is_ascii_digit text;
      at = digits_word text rest d.others some ends;
      index = is_index-leading text (some_leading is_ascii_digit text
          (λ f. some (ap length d.others ∙ f)));
      is = sym (found-number (leading is_ascii_digit text) (Some number)
          (subst (λ (n : ℕ). n < 2 ^ 64) d.value d.small, d.value));
    }

pub index_at : (text start rest : List ℕ) (number : ℕ) → start ≡ after is_blank text
    → IsNumberRead start number rest → length rest ≢ length start → ends_word rest ≡ true
    → IsIndexAt text number rest
index_at text start rest number s r some ends =
    let i = index_first start rest number r some ends in
    record {
      word = i.word;
      at = word-after_blanks text start i.word rest s i.at;
      index = i.index;
      is = i.is;
    }

blank_ends : (b : ℕ) → is_blank b ≡ true → is_space b ≡ true
blank_ends b e = rw e refl

-- an index followed by a blank, and the text after that blank
pub index_and_blank : (text from : List ℕ) (number end : ℕ) → end < length text
    → is_blank (get_or text end 0) ≡ true → IsNumberRead from number (drop end text)
    → length (drop end text) ≢ length from → IsIndexAt from number (drop (end + 1) text)
index_and_blank text from number end lt e r some =
    let i = index_first from (drop end text) number r some
    (ap ends_word (drop_more text end 0 lt) ∙ blank_ends (get_or text end 0) e) in
    let rest = drop end text in
    let next = drop (end + 1) text in
    let same = after_passed is_blank text end lt e in
    let words : line_words rest ≡ line_words next = sym (words-after_blanks rest)
    ∙ sym (ap line_words same) ∙ words-after_blanks next in
    record {
      word = i.word;
      at = record {
        words = i.at.words ∙ ap (λ (ws : List (List ℕ)). i.word ∷ ws) words;
        line = sym (line-after_blanks next) ∙ ap (after is_within_line) same
            ∙ line-after_blanks rest ∙ i.at.line;
      };
      index = i.index;
      is = i.is;
    }

-- the word of an integer begins with a minus exactly where the text does
same_sign : (text : List ℕ) → starts_with_minus (value_word text) ≡ starts_with_minus text
same_sign [] = refl
same_sign (b ∷ text) = by (eqb b 45) (eqb b 43) (is_ascii_digit b) refl refl refl
  where
    by : (minus plus digit : Bool) → eqb b 45 ≡ minus → eqb b 43 ≡ plus → is_ascii_digit b ≡ digit
        → starts_with_minus (value_word (b ∷ text)) ≡ starts_with_minus (b ∷ text)
    by true true digit m p d = ap starts_with_minus
        (let w : value_word (b ∷ text) ≡ b ∷ leading is_ascii_digit text = rw (p, m) refl in w)
    by true false digit m p d = ap starts_with_minus
        (let w : value_word (b ∷ text) ≡ b ∷ leading is_ascii_digit text = rw (p, m) refl in w)
    by false true digit m p d = ap starts_with_minus
        (let w : value_word (b ∷ text) ≡ b ∷ leading is_ascii_digit text = rw (p, m) refl in w)
    by false false true m p d = ap starts_with_minus
        (let w : value_word (b ∷ text) ≡ b ∷ leading is_ascii_digit text = rw (m, p, d) refl in w)
    by false false false m p d =
        let w : value_word (b ∷ text) ≡ [] = rw (m, p, d) refl in
        ap starts_with_minus w ∙ sym m

pub integer_is : (word : List ℕ) (n : ℕ) (minus : Bool) → is_integer word ≡ true
    → starts_with_minus word ≡ minus
    → n ≡ digits_value 10 (without_leading_sign word) → n < 2 ^ 64
    → integer_of word ≡ Ok (cond minus (neg_ℤ (pos n)) (pos n))
unfolding integer_of
integer_is word n true i m e lt = rw (← e, i, m) (negative n lt)
  where
    negative : (n : ℕ) → n < 2 ^ 64
        → cond (fits 127 (neg_ℤ (pos n))) (Ok (neg_ℤ (pos n))) (Err ParsingError) ≡ Ok
        (neg_ℤ (pos n))
    negative zero lt = refl
    negative (suc n) lt = rw (lt-ltb n (2 ^ 127) (omega arith)) refl
integer_is word n false i m e lt = rw (← e, i, m, lt-ltb n (2 ^ 127) (omega arith)) refl

-- the value of an integer, from the value of its digits and its sign
pub signed_integer : (word : List ℕ) (digits : Option ℕ) (kind : NumberKind) (n : ℕ) (minus : Bool)
    (value : Option ℤ) → IsNumberOf word digits kind → digits ≡ Some n
    → minus ≡ starts_with_minus word
    → MatchOption value (Unit {0}) (λ v. v ≡ cond minus (neg_ℤ (pos n)) (pos n))
    → MatchOption value (Unit {0}) (λ v. IsTrue (is_whole kind) → integer_of word ≡ Ok v)
signed_integer word digits kind n minus None number d m is = tt
signed_integer word digits kind n minus (Some v) number d m is = λ whole.
    let w : IsDigitsValue word (Some n) = subst (IsDigitsValue word) d (number.digits_are whole) in
    integer_is word n minus (number.integer ∙ whole) (sym m) w.1
    (subst (λ (k : ℕ). k < 2 ^ 64) (sym w.1) w.0)
    ∙ ap (λ (z : ℤ). Ok z) (sym is)

pub integer_at : (text start unsigned rest : List ℕ) (number : ℕ) (minus : Bool) (value : ℤ)
    → start ≡ after is_blank text → unsigned ≡ without_leading_sign start
    → IsNumberRead unsigned number rest → length rest ≢ length unsigned → ends_word rest ≡ true
    → minus ≡ starts_with_minus start → value ≡ cond minus (neg_ℤ (pos number)) (pos number)
    → IsIntegerAt text value rest
integer_at text start unsigned rest number minus value s u r some ends m v =
    let d = all_read unsigned rest number r ends in
    let w : SomeIff (Some number) (digits_value 10 (leading is_ascii_digit unsigned) < 2 ^ 64)
    (digits_value 10 (leading is_ascii_digit unsigned)) =
    (subst (λ (n : ℕ). n < 2 ^ 64) d.value d.small, d.value) in
    let a : AreDigits start unsigned rest (value_word start) (Some number) = record {
      unsigned_is = u;
      rest_is = d.others;
      some = some;
      ends = ends;
      word_is = refl;
      number = w;
    } in
    let i = value_word-is_integer start unsigned rest (value_word start) u d.others some refl in
    let n = value_word-number start unsigned (value_word start) (Some number) u w refl in
    record {
      word = value_word start;
      at = word-after_blanks text start _ rest s
          (integer_word start unsigned rest _ (Some number) a);
      integer = i;
      is = integer_is (value_word start) number minus i (same_sign start ∙ sym m) n.1 d.small
          ∙ ap (λ (z : ℤ). Ok z) (sym v);
    }

line_end_no_blank : (b : ℕ) → is_line_end b ≡ true → is_blank b ≡ false
line_end_no_blank b e = grind (arith, nat_tests)

no_blank_first : (text : List ℕ) → ends_line text ≡ true → text ≡ after is_blank text
no_blank_first [] e = refl
no_blank_first (b ∷ text) e = sym (after-no is_blank b text (line_end_no_blank b e))

-- a line that has no byte left ends here
pub end_at : (text rest : List ℕ) → rest ≡ text → ends_line text ≡ true → IsEndAt text rest
end_at text rest r e =
    let l = line_ends text text (no_blank_first text e) e in
    record { none = l.0; line = r ∙ l.1 }

-- a digit before LF is a number that ends its line
pub one_digit : (text : List ℕ) (from number : ℕ) → from + 1 < length text
    → is_ascii_digit (get_or text from 0) ≡ true → get_or text (from + 1) 0 ≡ 10
    → number ≡ get_or text from 0 - 48
    → IsLastNumber (drop from text) number (drop (from + 1) text)
one_digit text from number inside digit end is =
    let small = digit_small (get_or text from 0) digit in
    let ends = drop_more text (from + 1) 0 inside in
    let first : number ≡ 0 * 10 + (get_or text from 0 - 48) = omega (arith, is) in
    record {
      behind = drop (from + 1) text;
      read = record {
        value =
            ap (λ (n : ℕ). digits_value_after 10 n (leading is_ascii_digit (drop (from + 1) text)))
            first ∙ digit_read 0 text from (omega arith) digit;
        others = after_passed is_ascii_digit text from (omega arith) digit;
        small = omega arith;
        shorter = omega (arith, length-drop from text, length-drop (from + 1) text);
      };
      some = omega (arith, length-drop from text, length-drop (from + 1) text);
      word = ap ends_word ends ∙ ap is_space end;
      line = end_at _ _ refl (ap ends_line ends ∙ ap is_line_end end);
    }

-- an index before LF ends its line
pub index_and_end : (text from : List ℕ) (number end : ℕ) → end < length text
    → get_or text end 0 ≡ 10 → IsNumberRead from number (drop end text)
    → length (drop end text) ≢ length from → IsLastIndex from number (drop end text)
index_and_end text from number end lt e r some =
    let ends = drop_more text end 0 lt in
    record {
      behind = drop end text;
      at = index_first from (drop end text) number r some (ap ends_word ends ∙ ap is_space e);
      line = end_at _ _ refl (ap ends_line ends ∙ ap is_line_end e);
    }

-- the words of a line, from its first word and the words of the text after it
more : (text word rest : List ℕ) (words : List (List ℕ)) → IsWord text word rest
    → line_words rest ≡ words → line_words text ≡ word ∷ words
more text word rest words h e = h.words ∙ ap (λ (ws : List (List ℕ)). word ∷ ws) e

pub value_line_is : (text rest end : List ℕ) (value : ℤ) → IsIntegerAt text value rest
    → IsEndAt rest end
    → IsValueLine text value end
value_line_is text rest end value v e = record {
  value_word = v.word;
  words = more text v.word rest [] v.at e.none;
  integer = v.integer;
  value_is = v.is;
  after_line = e.line ∙ v.at.line;
}

pub pattern_line_is : (text second rest end : List ℕ) (row col : ℕ) → IsIndexAt text row second
    → IsIndexAt second col rest → IsEndAt rest end → IsPatternLine text row col end
pattern_line_is text second rest end row col r c e = record {
  row_word = r.word;
  col_word = c.word;
  words = more text r.word second _ r.at (more second c.word rest [] c.at e.none);
  row_index = r.index;
  col_index = c.index;
  row_is = r.is;
  col_is = c.is;
  after_line = e.line ∙ c.at.line ∙ r.at.line;
}

pub integer_line_is : (text second third end : List ℕ) (row col : ℕ) (value : ℤ)
    → IsIndexAt text row second
    → IsIndexAt second col third → IsValueLine third value end
    → IsIntegerLine text row col value end
integer_line_is text second third end row col value r c v = record {
  row_word = r.word;
  col_word = c.word;
  value_word = v.value_word;
  words = more text r.word second _ r.at (more second c.word third _ c.at v.words);
  row_index = r.index;
  col_index = c.index;
  integer = v.integer;
  row_is = r.is;
  col_is = c.is;
  value_is = v.value_is;
  after_line = v.after_line ∙ c.at.line ∙ r.at.line;
}
