-- A text is split after its first line, and read on after that line's end.
use Rattle.std.proofs.Common.{◌≡◌, ℕ, ◌+◌, ◌<◌, Bool, true, false, eqb, List, [], ◌∷◌}
use Rattle.std.proofs.Common.{◌++◌, length, get_or, drop, refl, ap, ◌∙◌, arith, inl, inr}
use Rattle.std.proofs.Common.{length-append}
use Rattle.std.proofs.lemmas.Bool.{eqb-true, eqb-false, not-false}
use Rattle.std.proofs.lemmas.Bool.Decides.{nat_tests}
use Rattle.sparse_parser.specs.Bytes.{is_line_end}
use Rattle.sparse_parser.specs.InnerBytes.{is_within_line}
use Rattle.sparse_parser.specs.Grammar.{IsOneLine, IsLineEnd}
use Rattle.sparse_parser.specs.InnerReading.{ends_line, written_of}
use Rattle.sparse_parser.proofs.LeadingBytes.{IsStopped, Passes-leading, IsStopped-after}
use Rattle.sparse_parser.proofs.LeadingBytes.{leading-append-after, length-after}
use Rattle.sparse_parser.proofs.FirstLines.{plain-from}
use Rattle.sparse_parser.proofs.LineLaws.{some_byte, written_of-end}
use Rattle.sparse_faults.specs.InnerLines.{IsCut, IsEnded}

-- ---- line ends

pub some_end : (end rest : List ℕ) → IsLineEnd end rest → 0 < length end
some_end end rest (inl e) = rw e (omega arith)
some_end end rest (inr (inl e)) = rw e (omega arith)
some_end end rest (inr (inr e)) = rw e.0 (omega arith)

-- a line end of one byte: not a CR that an LF follows
pub ended_one : (text rest : List ℕ) → 0 < length text → ends_line text ≡ true → rest ≡ drop 1 text
    → ¬ ((get_or text 0 0 ≡ 13) × (get_or rest 0 0 ≡ 10)) → IsEnded text rest
ended_one [] rest lt e r apart = absurd (omega arith)
ended_one (b ∷ text) rest lt e r apart = by (eqb b 10) refl
  where
    other : is_line_end b ≡ true → eqb b 10 ≡ false → b ≡ 13
    other e f = grind (arith, nat_tests)

    by : (t : Bool) → eqb b 10 ≡ t → IsEnded (b ∷ text) rest
    by true f = inr (10 ∷ [], inl refl, rw (eqb-true _ _ f, r) refl)
    by false f =
        let is = other e f in
        inr (13 ∷ [], inr (inr (refl, λ k. apart (is, k))), rw (is, r) refl)

-- the line end CR LF
pub ended_two : (text rest next : List ℕ) → get_or text 0 0 ≡ 13 → rest ≡ drop 1 text
    → get_or rest 0 0 ≡ 10 → next ≡ drop 1 rest → IsEnded text next
ended_two text rest next cr r lf n = inr (
  13 ∷ 10 ∷ [],
  inr (inl refl),
  some_byte 13 text (omega arith) cr
      ∙ rw (← r, n) (ap (λ (x : List ℕ). 13 ∷ x) (some_byte 10 rest (omega arith) lf)),
)

-- a text that is empty or begins with a line end has a text after it
pub some_next : (others : List ℕ) → ends_line others ≡ true → (next : List ℕ) × IsEnded others next
some_next [] e = ([], inl (refl, refl))
some_next (b ∷ text) e = by (eqb b 13) (eqb (get_or text 0 0) 10) refl refl
  where
    by : (cr lf : Bool) → eqb b 13 ≡ cr → eqb (get_or text 0 0) 10 ≡ lf
        → (next : List ℕ) × IsEnded (b ∷ text) next
    by true true f g =
        (drop 1 text, ended_two (b ∷ text) text _ (eqb-true _ _ f) refl (eqb-true _ _ g) refl)
    by true false f g =
        (text, ended_one (b ∷ text) text (omega arith) e refl (λ p. eqb-false _ _ g p.1))
    by false lf f g =
        (text, ended_one (b ∷ text) text (omega arith) e refl (λ p. eqb-false _ _ f p.0))

-- a line end at the beginning does not change the lines that are not blank
pub ended_same : (others next : List ℕ) → IsEnded others next → written_of others ≡ written_of next
ended_same others next (inl (o, n)) = rw (o, n) refl
ended_same others next (inr (end, inl e, o)) = rw (o, e) (written_of-end 10 next refl)
ended_same others next (inr (end, inr (inl e), o)) =
    rw (o, e) (written_of-end 13 (10 ∷ next) refl ∙ written_of-end 10 next refl)
ended_same others next (inr (end, inr (inr e), o)) = rw (o, e.0) (written_of-end 13 next refl)

-- ---- the first line

stopped_end : (text : List ℕ) → IsStopped is_within_line text → ends_line text ≡ true
stopped_end [] h = refl
stopped_end (b ∷ text) h = not-false (is_line_end b) h

module _ {rest line others : List ℕ} (c : IsCut rest line others) where
  pub cut_whole : line ++ others ≡ rest
  cut_whole = rw (c.line_is, c.others_are) (leading-append-after is_within_line rest)

  pub cut_plain : IsOneLine line
  cut_plain = rw c.line_is (plain-from _ (Passes-leading is_within_line rest))

  pub cut_ends : ends_line others ≡ true
  cut_ends = rw c.others_are (stopped_end _ (IsStopped-after is_within_line rest))

  pub cut_shorter : (next : List ℕ) → IsEnded others next → length next < length rest
  cut_shorter next (inl (o, n)) =
      let l : length next ≡ 0 = ap length n in
      let s = c.some in
      omega arith
  cut_shorter next (inr (end, is, o)) =
      let l = ap length (c.others_are) in
      let a = length-after is_within_line rest in
      let parts : length others ≡ length end + length next = ap length o ∙ length-append end next in
      let s = some_end end next is in
      omega arith
