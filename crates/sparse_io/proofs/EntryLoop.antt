-- Data lines that a loop reads one after the other, and their number.
use Rattle.std.proofs.Common.{◌≡◌, ℕ, suc, ◌+◌, ◌≤◌, ◌<◌, Bool, true, false, cond}
use Rattle.std.proofs.Common.{List, [], ◌∷◌, length, Option, Some}
use Rattle.std.proofs.Common.{None, refl, sym, ap, ◌∙◌, arith}
use Rattle.std.specs.List.{list_all}
use Rattle.sparse_parser.specs.declared.data_lines.Line.{Line}
use Rattle.sparse_parser.specs.Bytes.{leading, after}
use Rattle.sparse_parser.specs.InnerBytes.{is_within_line, BeginsLine}
use Rattle.sparse_parser.specs.Grammar.{is_entry}
use Rattle.sparse_parser.specs.InnerReading.{words_of, line_words, contents_of, count_of}
use Rattle.sparse_parser.specs.InnerLines.{IsLine}
use Rattle.sparse_parser.proofs.LeadingBytes.{length-after-lt}
use Rattle.sparse_parser.proofs.FirstLines.{outside, contents_of-line, contents_of-nil}

-- the first line is a data line with these words, and `next` is the text from the next line on
pub record IsRead (text next : List ℕ) (words : List (List ℕ)) : Type 0 where
  pub same : contents_of text ≡ words ∷ contents_of next
  pub is : is_entry words ≡ true
  pub shorter : length next < length text

-- the first line is not a data line
pub record IsRefused (text : List ℕ) : Type 0 where
  pub words : List (List ℕ)
  pub others : List (List (List ℕ))
  pub same : contents_of text ≡ words ∷ others
  pub is : is_entry words ≡ false

-- a data line that begins the text was read
pub first_line_read : (text rest next : List ℕ) → BeginsLine text → 0 < length text
    → is_entry (line_words text) ≡ true → rest ≡ after is_within_line text
    → contents_of next ≡ contents_of rest → length next ≤ length rest
    → IsRead text next (line_words text)
unfolding line_words
first_line_read [] rest next b lt is e same le = absurd (omega arith)
first_line_read (c ∷ text) rest next b lt is e same le =
    let l : length (after is_within_line (c ∷ text)) < length (c ∷ text) =
    length-after-lt is_within_line c text (outside c b.0).1 in
    let r : length rest ≡ length (after is_within_line (c ∷ text)) = ap length e in
    record {
      same = contents_of-line c text b.0 b.1 ∙ ap
          (λ (ls : List (List (List ℕ))). words_of (leading is_within_line (c ∷ text)) ∷ ls)
          (ap contents_of (sym e) ∙ sym same);
      is = is;
      shorter = omega arith;
    }

pub line_read : (text rest next : List ℕ) (line : Line) → BeginsLine text → 0 < length text
    → IsLine text line rest → contents_of next ≡ contents_of rest → length next ≤ length rest
    → IsRead text next (line_words text)
line_read text rest next line b lt h same le =
    first_line_read text rest next b lt (ap is_entry h.words ∙ h.is) h.after_line same le

pub line_refused : (text : List ℕ) → BeginsLine text → 0 < length text
    → is_entry (line_words text) ≡ false → IsRefused text
unfolding line_words
line_refused [] b lt none = absurd (omega arith)
line_refused (c ∷ text) b lt none = record {
  words = words_of (leading is_within_line (c ∷ text));
  others = contents_of (after is_within_line (c ∷ text));
  same = contents_of-line c text b.0 b.1;
  is = none;
}

pub no_text : (text : List ℕ) → length text ≡ 0 → contents_of text ≡ []
no_text [] e = contents_of-nil
no_text (c ∷ text) e = absurd (omega arith)

-- ---- counting

-- the number of data lines, if n were counted before these
abbrev pub count_from : ℕ → List (List (List ℕ)) → Option ℕ
count_from n lines = cond (list_all is_entry lines) (Some (n + length lines)) None

pub count_start : (text next : List ℕ) → contents_of next ≡ contents_of text
    → count_from 0 (contents_of next) ≡ count_of (contents_of text)
unfolding count_of
count_start text next e =
    rw e (by (list_all is_entry (contents_of text)) (length (contents_of text)))
  where
    by : (t : Bool) (n : ℕ) → cond t (Some (0 + n)) None ≡ cond t (Some n) None
    by true n = ap (λ (k : ℕ). Some k) (omega arith)
    by false n = refl

pub count_more : (text next : List ℕ) (words : List (List ℕ)) (n : ℕ) (total : Option ℕ)
    → IsRead text next words → count_from n (contents_of text) ≡ total
    → count_from (n + 1) (contents_of next) ≡ total
count_more text next words n total h so_far =
    let one : count_from n (contents_of text) ≡ count_from n (words ∷ contents_of next) =
    ap (count_from n) h.same in
    let two : count_from n (words ∷ contents_of next) ≡ count_from (n + 1) (contents_of next) =
    rw h.is (by (list_all is_entry (contents_of next)) (length (contents_of next))) in
    sym two ∙ sym one ∙ so_far
  where
    by : (t : Bool) (k : ℕ) → cond t (Some (n + suc k)) None ≡ cond t (Some (n + 1 + k)) None
    by true k = ap (λ (k : ℕ). Some k) (omega arith)
    by false k = refl

pub count_refused : (text : List ℕ) (n : ℕ) (total : Option ℕ) → IsRefused text
    → count_from n (contents_of text) ≡ total → None ≡ total
count_refused text n total h so_far =
    let two : count_from n (h.words ∷ h.others) ≡ None = rw h.is refl in
    sym two ∙ sym (ap (count_from n) h.same) ∙ so_far

pub count_end : (text : List ℕ) (n : ℕ) (total : Option ℕ) → length text ≡ 0
    → count_from n (contents_of text) ≡ total → Some n ≡ total
count_end text n total e so_far =
    let two : count_from n (contents_of text) ≡ Some (n + 0) = ap (count_from n) (no_text text e) in
    ap (λ (k : ℕ). Some k) (omega arith) ∙ sym two ∙ so_far
