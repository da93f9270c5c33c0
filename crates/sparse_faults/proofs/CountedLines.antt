-- The lines of a text are counted while they are read.
use Rattle.std.proofs.Common.{◌≡◌, ℕ, ◌+◌, List, [], ◌∷◌, ◌++◌, length, refl, sym, ap, ◌∙◌}
use Rattle.std.proofs.Common.{arith, inl, inr, append_assoc, append-nil, length-append}
use Rattle.sparse_parser.specs.Grammar.{AreLines}
use Rattle.sparse_parser.specs.InnerReading.{words_of}
use Rattle.sparse_parser.proofs.LineLaws.{some_lines}
use Rattle.sparse_parser.proofs.WordLaws.{words_are}
use Rattle.sparse_faults.specs.InnerLines.{IsCut, IsEnded, AreAbove}
use Rattle.sparse_faults.specs.Lines.{HasLine}
use Rattle.sparse_faults.proofs.LineEnds.{cut_whole, cut_plain, cut_ends}
use Rattle.sparse_faults.proofs.LineEnds.{some_end, some_next}

no_lines : (lines : List (List ℕ)) → AreLines [] lines → lines ≡ []
no_lines [] h = refl
no_lines (line ∷ lines) (plain, inl (lt, e, none)) =
    absurd (let l : 0 ≡ length line = ap length e in omega arith)
no_lines (line ∷ lines) (plain, inr (end, rest, is, e, others)) =
    absurd (let l : 0 ≡ length (line ++ (end ++ rest)) = ap length e in
    let s = some_end end rest is in
    omega (arith, length-append line (end ++ rest), length-append end rest))

module _ {rest line others : List ℕ} (c : IsCut rest line others) where
  -- the first line, and the lines below it
  pub AreLines-first_line : (next : List ℕ) (behind : List (List ℕ)) → IsEnded others next
      → AreLines next behind → AreLines rest (line ∷ behind)
  AreLines-first_line next behind (inl (o, n)) h =
      let whole : rest ≡ line = sym (cut_whole c) ∙ rw o (append-nil line) in
      let some = c.some in
      (cut_plain c, inl (rw whole at some, whole, no_lines behind (rw n at h)))
  AreLines-first_line next behind (inr (end, is, o)) h =
      (cut_plain c, inr (end, next, is, sym (cut_whole c) ∙ rw o refl, h))

  -- the line above the text after its end
  pub above_line : {text : List ℕ} {first : ℕ} {before : List (List ℕ)} {number : ℕ}
      (next : List ℕ) → AreAbove text first before number rest → IsEnded others next
      → AreAbove text first (before ++ (line ∷ [])) (number + 1) next
  above_line {before = before} next a e = record {
    counted =
        let n = length-append before (line ∷ []) in
        let m = a.counted in
        omega arith;
    read_is = λ behind h. rw append_assoc
        (a.read_is (line ∷ behind) (AreLines-first_line next behind e h));
  }

  -- the text has a line with this number
  pub has_line : {text : List ℕ} {before : List (List ℕ)} {number : ℕ}
      → (a : AreAbove text 1 before number rest) → (n : ℕ) → n ≡ number
      → (P : List (List ℕ) → List (List ℕ) → Type 0) → P before (words_of line)
      → HasLine text n P
  has_line {before = before} a n e P h =
      let next = some_next others (cut_ends c) in
      let lines = some_lines next.0 in (
        line,
        words_of line,
        record {
          before = before;
          behind = lines.0;
          lines = a.read_is (line ∷ lines.0) (AreLines-first_line next.0 lines.0 next.1 lines.1);
          counted = let m = a.counted in omega arith;
        },
        words_are line,
        h,
      )

-- ---- the lines above a text

pub above_none : (text : List ℕ) (first : ℕ) → AreAbove text first [] first text
above_none text first = record { counted = omega arith; read_is = λ behind h. h }

pub above_both : {text middle rest : List ℕ} {first number last : ℕ} {before more : List (List ℕ)}
    → AreAbove text first before number middle → AreAbove middle number more last rest
    → AreAbove text first (before ++ more) last rest
above_both {before = before} {more = more} a b = record {
  counted =
      let n = length-append before more in
      let m = a.counted in
      let k = b.counted in
      omega arith;
  read_is = λ behind h. rw append_assoc (a.read_is (more ++ behind) (b.read_is behind h));
}
