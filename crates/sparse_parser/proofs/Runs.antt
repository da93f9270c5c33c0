-- Runs of digits that are read at once, and a line that begins right after LF.
use Rattle.std.proofs.Common.{◌≡◌, ◌≢◌, ℕ, ◌+◌, ◌-◌, ◌*◌, ◌%◌, ◌^◌, ◌≤◌, ◌<◌, false, List, []}
use Rattle.std.proofs.Common.{◌∷◌, length, get_or, take, drop, slice_range, refl, sym, ap, subst}
use Rattle.std.proofs.Common.{◌∙◌, arith, length-drop, drop-drop, length-take-le, take-take}
use Rattle.std.proofs.lemmas.List.{drop_more, drop-take}
use Rattle.std.proofs.lemmas.Bool.Decides.{nat_tests}
use Rattle.std.specs.Char.{is_ascii_digit}
use Rattle.std.specs.Str.Parse.{digits_value, digits_value_after}
use Rattle.std.specs.Float.Numeral.{digits_len}
use Rattle.core.proofs.dec2flt.DigitsLemmas.{digits_len_short}
use Rattle.core.proofs.dec2flt.Rows.{AllDigits-digits_len, short_fits}
use Rattle.core.proofs.slice.Prefixes.{prefix_len-le-length}
use Rattle.sparse_parser.specs.Bytes.{leading, after}
use Rattle.sparse_parser.specs.InnerBytes.{is_space, BeginsLine}
use Rattle.sparse_parser.specs.InnerNumbers.{IsNumberRead}
use Rattle.sparse_parser.specs.InnerReading.{contents_of}
use Rattle.sparse_parser.proofs.LeadingBytes.{IsStopped-after, leading-append, after-append, after-yes}
use Rattle.sparse_parser.proofs.LeadingBytes.{leading_take, after_drop}
use Rattle.sparse_parser.proofs.LeadingBytes.{after-no}
use Rattle.sparse_parser.proofs.FirstLines.{IsSought, sought_first}

-- a run of digits is the longest prefix of digits
run_is : (text : List ℕ) (from count : ℕ) → count ≡ digits_len (drop from text)
    → (take count (drop from text) ≡ leading is_ascii_digit (drop from text))
    × (drop (from + count) text ≡ after is_ascii_digit (drop from text))
run_is text from count run =
    let start = drop from text in (
      ap (λ (n : ℕ). take n start) run ∙ sym (leading_take is_ascii_digit start),
      sym (drop-drop count from text) ∙ ap (λ (n : ℕ). drop n start) run
          ∙ sym (after_drop is_ascii_digit start),
    )

-- the text after the leading digits has no leading digit
run_ends : (text rest : List ℕ) → rest ≡ after is_ascii_digit text
    → (leading is_ascii_digit rest ≡ []) × (after is_ascii_digit rest ≡ rest)
run_ends text rest r =
    let stop = IsStopped-after is_ascii_digit text in (
      ap (leading is_ascii_digit) r
          ∙ leading-append is_ascii_digit [] (after is_ascii_digit text) tt stop,
      ap (after is_ascii_digit) r
          ∙ after-append is_ascii_digit [] (after is_ascii_digit text) tt stop ∙ sym r,
    )

-- all leading digits, at most 19, were read
run_read : (text : List ℕ) (from count number : ℕ) → from ≤ length text
    → count ≡ digits_len (drop from text) → count ≤ 19
    → number ≡ digits_value 10 (take count (drop from text)) % 2 ^ 64
    → IsNumberRead (drop from text) number (drop (from + count) text)
run_read text from count number inside run short is =
    let start = drop from text in
    let r = run_is text from count run in
    let none = run_ends start (drop (from + count) text) r.1 in
    let all = prefix_len-le-length is_ascii_digit start in
    let small : digits_value 10 (take count start) < 2 ^ 64 =
    short_fits (take count start) (AllDigits-digits_len start count (omega arith))
    (omega (arith, length-take-le count start (omega arith))) in
    let value : number ≡ digits_value 10 (take count start) = omega arith in
    record {
      value = ap (digits_value_after 10 number) none.0 ∙ value ∙ ap (digits_value 10) r.0;
      others = none.1 ∙ r.1;
      small = omega arith;
      shorter = omega (arith, length-drop from text, length-drop (from + count) text);
    }

-- all leading digits lie within the first bytes, and there are at most 19
pub first_read : (most : ℕ) (text rest first : List ℕ) (from count number : ℕ)
    → from ≤ length text → rest ≡ drop from text → first ≡ take most rest
    → count ≡ 0 + digits_len (drop 0 first) → count < most → count ≤ 19
    → number ≡ (0 * 10 ^ (count - 0) + digits_value 10 (slice_range first 0 count)) % 2 ^ 64
    → IsNumberRead (drop from text) number (drop (from + count) text)
first_read most text rest first from count number inside r e run short few is =
    let start = drop from text in
    let bytes : first ≡ take most start = e ∙ ap (take most) r in
    let within : count ≡ 0 + digits_len (take most start) =
    run ∙ ap (λ (bs : List ℕ). 0 + digits_len (drop 0 bs)) bytes in
    let whole = digits_len_short start most (omega arith) in
    let none_off : count - 0 ≡ count = omega arith in
    let digits : slice_range first 0 count ≡ take count start =
    ap (λ (bs : List ℕ). take (count - 0) (drop 0 bs)) bytes
    ∙ ap (λ (n : ℕ). take n (take most start)) none_off
    ∙ take-take count most start (omega arith) in
    run_read text from count number inside (omega arith) (omega arith)
    (omega (arith, ap (digits_value 10) digits))

-- at most six digits are read from a slice that begins five bytes before them
pub window_read : (text before window : List ℕ) (from end number : ℕ) → from ≤ length text
    → 5 ≤ from → before ≡ drop (from - 5) text → window ≡ take 12 before
    → end ≡ 5 + digits_len (drop 5 window) → end < 12
    → number ≡ (0 * 10 ^ (end - 5) + digits_value 10 (slice_range window 5 end)) % 2 ^ 64
    → IsNumberRead (drop from text) number (drop (from + (end - 5)) text)
window_read text before window from end number inside room b w run short is =
    let start = drop from text in
    let at : from - 5 + 5 ≡ from = omega arith in
    let seven : drop 5 window ≡ take 7 start =
    ap (drop 5) w ∙ drop-take 5 7 before
    ∙ ap (λ (t : List ℕ). take 7 (drop 5 t)) b
    ∙ ap (take 7) (drop-drop 5 (from - 5) text ∙ ap (λ (n : ℕ). drop n text) at) in
    let len = ap digits_len seven in
    let whole = digits_len_short start 7 (omega arith) in
    let digits : slice_range window 5 end ≡ take (end - 5) start =
    ap (take (end - 5)) seven ∙ take-take (end - 5) 7 start (omega arith) in
    run_read text from (end - 5) number inside (omega arith) (omega arith)
    (omega (arith, ap (digits_value 10) digits))

visible : (b : ℕ) → 37 < b → is_space b ≡ false
visible b lt = grind (arith, nat_tests)

-- a line begins after LF if the next byte begins neither a comment nor a blank line
pub line_begins : (text : List ℕ) → 1 < length text → get_or text 0 0 ≡ 10 → 37 < get_or text 1 0
    → IsSought text (drop 1 text) × BeginsLine (drop 1 text)
line_begins [] lt e more = absurd (omega arith)
line_begins (a ∷ []) lt e more = absurd (omega arith)
line_begins (a ∷ b ∷ text) lt e more =
    let seen = visible b more in
    let no_comment : b ≢ 37 = λ f. absurd (omega arith) in
    let at : b ∷ text ≡ after is_space (a ∷ b ∷ text) =
    sym (ap (λ (c : ℕ). after is_space (c ∷ b ∷ text)) e
    ∙ after-yes is_space 10 (b ∷ text) refl ∙ after-no is_space b text seen) in
    (sought_first (a ∷ b ∷ text) (b ∷ text) at, (seen, no_comment))

-- the same at an offset of a text
pub line_begins_at : (text : List ℕ) (from : ℕ) → from + 1 < length text → get_or text from 0 ≡ 10
    → 37 < get_or text (from + 1) 0
    → (contents_of (drop (from + 1) text) ≡ contents_of (drop from text))
    × BeginsLine (drop (from + 1) text)
line_begins_at text from inside e more =
    let here = drop_more text from 0 (omega arith) in
    let next = drop_more text (from + 1) 0 inside in
    let both : drop from text
    ≡ get_or text from 0 ∷ get_or text (from + 1) 0 ∷ drop (from + 1 + 1) text =
    here ∙ ap (λ (t : List ℕ). get_or text from 0 ∷ t) next in
    let l = line_begins (get_or text from 0 ∷ get_or text (from + 1) 0 ∷ drop (from + 1 + 1) text)
    (omega arith) e more in
    (ap contents_of next ∙ l.0.same ∙ ap contents_of (sym both), subst BeginsLine (sym next) l.1)
