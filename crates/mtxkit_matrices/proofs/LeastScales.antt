-- At which scales a text can be written, by the fault that it has at one.
use Rattle.std.proofs.Common.{◌≡◌, ℕ, ℤ, ◌<◌, ◌≤◌, ◌^◌, List, [], ◌∷◌, ◌++◌, Option, Some, None, Ok}
use Rattle.std.proofs.Common.{refl, sym, subst, true, inl, inr}
use Rattle.std.specs.Prelude.{FitsSigned}
use Rattle.std.specs.Int.{w128}
use Rattle.std.specs.List.{list_all}
use Rattle.sparse_algebra.proofs.Cases.{and_parts}
use Rattle.sparse_parser.specs.declared.header.Format.{Format}
use Rattle.sparse_parser.specs.declared.header.Format.TheVariants.{Coordinate, Array}
use Rattle.sparse_parser.specs.declared.header.Header.{Header}
use Rattle.sparse_parser.specs.Grammar.{AreWords, is_entry, is_size}
use Rattle.sparse_parser.specs.Header.{is_allowed}
use Rattle.sparse_parser.specs.Meaning.{sizes_of}
use Rattle.sparse_faults.specs.declared.fault.LineFault.{LineFault}
use Rattle.sparse_faults.specs.InnerFirstFaults.{contents_in}
use Rattle.sparse_faults.specs.Lines.{IsContent, IsLineOf}
use Rattle.sparse_faults.proofs.LineLists.{some_header}
use Rattle.mtxkit_matrices.specs.declared.decimals.error.ScaleError.{ScaleError}
use Rattle.mtxkit_matrices.specs.declared.decimals.error.ScaleError.TheVariants as errors
use Rattle.mtxkit_matrices.specs.declared.decimals.number.Misfit.{Misfit}
use Rattle.mtxkit_matrices.specs.declared.decimals.number.Misfit.TheVariants.{Fraction, Range}
use Rattle.mtxkit_matrices.specs.Decimals.{IsMisfit, IsScaled}
use Rattle.mtxkit_matrices.specs.ScaledTexts.{AreScaled, CanBeScaled, IsScaledEntry, IsScaledText}
use Rattle.mtxkit_matrices.specs.ScaledTexts.{is_decimal}
use Rattle.mtxkit_matrices.specs.ScaleFailures.{AreBelowSizes, HasMisfit}
use Rattle.mtxkit_matrices.specs.ScaleFailures.{EndsEarly, HasNoEntry, HasNoHeader, HasNoSizes}
use Rattle.mtxkit_matrices.specs.ScaleFailures.{HasNoValue, HasWrongField, IsScaleFailure}
use Rattle.mtxkit_matrices.specs.ScaleFailures.{is_decimal_entry}
use Rattle.mtxkit_matrices.specs.InnerScaleFailures.{next_scale}
use Rattle.mtxkit_matrices.proofs.DocumentLines.{first_line, some_line, headed_same, next_contents}
use Rattle.mtxkit_matrices.proofs.ScaledValues.{fraction_below, wide_above}

-- ---- a data line among scaled ones

entry_here : (read : List (List (List ℕ))) (words : List (List ℕ)) (others : List (List (List ℕ)))
    → list_all is_entry (read ++ (words ∷ others)) ≡ true → is_entry words ≡ true
entry_here [] words others h = (and_parts (is_entry words) (list_all is_entry others) h).0
entry_here (first ∷ read) words others h =
    entry_here read words others
    (and_parts (is_entry first) (list_all is_entry (read ++ (words ∷ others))) h).1

module _ (scale : ℕ) where
  scaled_here : (format : Format) (read : List (List (List ℕ))) (words : List (List ℕ))
      (others entries : List (List (List ℕ)))
      → AreScaled scale format (read ++ (words ∷ others)) entries
      → (entry : List (List ℕ)) × IsScaledEntry scale format words entry
  scaled_here format [] words others [] h = absurd h
  scaled_here format [] words others (entry ∷ entries) h = (entry, h.0)
  scaled_here format (first ∷ read) words others [] h = absurd h
  scaled_here format (first ∷ read) words others (entry ∷ entries) h =
      scaled_here format read words others entries h.1

  -- an entry that is scaled has a number of words that its format has
  decimal_here : (format : Format) (words entry : List (List ℕ))
      → IsScaledEntry scale format words entry → is_entry words ≡ true
      → is_decimal_entry format words ≡ true
  unfolding is_entry
  decimal_here Coordinate (row ∷ col ∷ value ∷ []) (a ∷ b ∷ w ∷ []) h e = e
  decimal_here Array (value ∷ []) (w ∷ []) h e = e
  decimal_here format words entry h e = absurd h

  -- the value of the line is an integer of 128 bits
  value_here : (format : Format) (places : List (List ℕ)) (value : List ℕ) (entry : List (List ℕ))
      → is_decimal_entry format (places ++ (value ∷ [])) ≡ true
      → IsScaledEntry scale format (places ++ (value ∷ [])) entry
      → (z : ℤ) × IsScaled scale value z × FitsSigned w128 z
  value_here Coordinate [] value entry e h = absurd cc
  value_here Coordinate (a ∷ []) value entry e h = absurd cc
  value_here Coordinate (a ∷ b ∷ []) value [] e h = absurd h
  value_here Coordinate (a ∷ b ∷ []) value (x ∷ []) e h = absurd h
  value_here Coordinate (a ∷ b ∷ []) value (x ∷ y ∷ []) e h = absurd h
  value_here Coordinate (a ∷ b ∷ []) value (x ∷ y ∷ w ∷ []) e h =
      (h.2.number, h.2.scaled, h.2.fits)
  value_here Coordinate (a ∷ b ∷ []) value (x ∷ y ∷ w ∷ v ∷ ws) e h = absurd h
  value_here Coordinate (a ∷ b ∷ c ∷ []) value entry e h = absurd cc
  value_here Coordinate (a ∷ b ∷ c ∷ d ∷ places) value entry e h = absurd cc
  value_here Array [] value [] e h = absurd h
  value_here Array [] value (w ∷ []) e h = (h.number, h.scaled, h.fits)
  value_here Array [] value (w ∷ v ∷ ws) e h = absurd h
  value_here Array (a ∷ []) value entry e h = absurd cc
  value_here Array (a ∷ b ∷ places) value entry e h = absurd cc

-- ---- a text that can be written at the scale `other`, and has a fault at another one

module _ {text : List ℕ} {other : ℕ} {written : List ℕ} (t : IsScaledText other text written) where
  no_header : (n : ℕ) (fault : LineFault) → HasNoHeader text n fault → ⊥
  no_header n fault (line, words, l, are, (blank, inl (some, none, f))) =
      let e = first_line t.read l.before line l.behind words l.lines blank are some in
      cc
  no_header n fault (line, words, l, are, (blank, inr (h, says, field, refused, f))) =
      let e = first_line t.read l.before line l.behind words l.lines blank are
      (some_header words h says) in
      let same : h ≡ t.header = cc in
      let allowed : is_allowed h ≡ true = rw same t.allowed in
      cc

  no_field : (n : ℕ) → HasWrongField text n → ⊥
  no_field n (line, words, l, are, (blank, (h, says, field))) =
      let e = first_line t.read l.before line l.behind words l.lines blank are
      (some_header words h says) in
      let same : h ≡ t.header = cc in
      let decimal : is_decimal h.field ≡ true = rw same t.field in
      cc

  no_sizes : (n : ℕ) (fault : LineFault) → HasNoSizes text n fault → ⊥
  no_sizes n fault (line, words, l, are, (h, below, content, inl (is, f))) =
      let p = next_contents t.read l.before line l.behind words l.lines are content h [] below in
      let contents = p.1 in
      let same : words ≡ t.size = cc in
      let sized : is_size words ≡ true = rw same t.read.sized in
      cc
  no_sizes n fault (line, words, l, are, (h, below, content, inr (kind, is, why, f))) =
      let p = next_contents t.read l.before line l.behind words l.lines are content h [] below in
      let contents = p.1 in
      let same : words ≡ t.size = cc in
      let sizes : sizes_of h words ≡ Ok t.sizes.0 = rw (p.0, same) t.sizes.1 in
      cc

  -- the text does not end before its size line
  no_end : EndsEarly text → ⊥
  no_end (lines, cut, inl blank) = some_line t.read lines cut blank
  no_end (lines, cut, inr (h, below)) =
      let p = headed_same t.read h [] (record {
        lines = lines;
        words = below.words;
        cut = cut;
        headed = below.headed;
        says = below.says;
      }) in
      let contents = p.1 in
      cc

  -- the data lines of the text are those above a line with contents, that line, and those below
  module _ (line : List ℕ) (words : List (List ℕ)) {n scale : ℕ} (l : IsLineOf text n line)
      (are : AreWords line words) (content : IsContent words) {h : Header}
      (below : AreBelowSizes scale l.before h) where
    same : (h ≡ t.header) × (below.read ++ (words ∷ contents_in l.behind) ≡ t.lines)
    same =
        let p = next_contents t.read l.before line l.behind words l.lines are content h
        (below.size ∷ below.read) below.headed in
        let contents = p.1 in
        (p.0, cc)

    scaled : (entry : List (List ℕ)) × IsScaledEntry other h.format words entry
    scaled =
        let values : AreScaled other h.format (below.read ++ (words ∷ contents_in l.behind)) t.entries =
        rw (same.0, same.1) t.values in
        scaled_here other h.format below.read words (contents_in l.behind) t.entries values

    decimal : is_decimal_entry h.format words ≡ true
    decimal = decimal_here other h.format words scaled.0 scaled.1
        (entry_here below.read words (contents_in l.behind) (rw same.1 t.read.listed))

    value : (why : Misfit) (m : HasMisfit why scale h.format words)
        → (z : ℤ) × IsScaled other m.value z × FitsSigned w128 z
    value why m = value_here other h.format m.places m.value scaled.0
        (subst (λ (ws : List (List ℕ)). is_decimal_entry h.format ws ≡ true) m.words_are m.is)
        (subst (λ (ws : List (List ℕ)). IsScaledEntry other h.format ws scaled.0) m.words_are scaled.1)

  no_entry : (scale n : ℕ) → HasNoEntry scale text n → ⊥
  no_entry scale n (line, words, l, are, (h, below, content, none)) =
      let e = decimal line words l are content below in
      cc

  -- the value that is refused at another scale, at this one
  refused_value : (why : Misfit) (scale n : ℕ) → HasNoValue why scale text n
      → (word : List ℕ) × (z : ℤ) × IsMisfit why scale word × IsScaled other word z × FitsSigned w128 z
  refused_value why scale n (line, words, l, are, (h, below, content, m)) =
      let v = value line words l are content below why m in
      (m.value, v.0, m.not, v.1, v.2)

-- ---- the text

module _ (text : List ℕ) (scale : ℕ) where
  -- at the least scale of a refused value, which is larger, and not below
  pub next_larger : (why : ScaleError) → IsScaleFailure scale text why → (least : ℕ)
      → Some least ≡ next_scale why → scale < least
  next_larger (errors.Fraction n o) f least e =
      let h : HasNoValue (Fraction (Some least)) scale text n =
      subst (λ (o : Option ℕ). HasNoValue (Fraction o) scale text n) (sym e) f in
      let m = h.4.3 in
      fraction_below m.value scale least m.not
  next_larger why f least e = absurd cc

  pub none_below : (why : ScaleError) → IsScaleFailure scale text why → (least : ℕ)
      → Some least ≡ next_scale why → (less : ℕ) → less < least → CanBeScaled less text → ⊥
  none_below (errors.Fraction n o) f least e less lt (written, t) =
      let v = refused_value t (Fraction (Some least)) scale n
      (subst (λ (o : Option ℕ). HasNoValue (Fraction o) scale text n) (sym e) f) in
      v.2.1.1 less lt v.1 v.3
  none_below why f least e less lt can = absurd cc

  -- if there is none, at no scale from this one on
  module _ (other : ℕ) (le : scale ≤ other) (low : other < 2 ^ 32) where
    pub none_above : (why : ScaleError) → IsScaleFailure scale text why
        → None ≡ next_scale why → ¬ (why ≡ errors.OutOfMemory) → CanBeScaled other text → ⊥
    none_above (errors.Header at) f none memory (written, t) = no_header t at.line at.fault f
    none_above (errors.Field n) f none memory (written, t) = no_field t n f
    none_above (errors.Sizes at) f none memory (written, t) = no_sizes t at.line at.fault f
    none_above (errors.Entry n) f none memory (written, t) = no_entry t scale n f
    none_above (errors.Fraction n None) f none memory (written, t) =
        let v = refused_value t (Fraction None) scale n f in
        v.2.1 other low v.1 v.3
    none_above (errors.Fraction n (Some least)) f none memory (written, t) = absurd cc
    none_above (errors.Range n) f none memory (written, t) =
        let v = refused_value t Range scale n f in
        wide_above v.0 scale other v.2 le v.1 v.3 v.4
    none_above errors.Ended f none memory (written, t) = no_end t f
    none_above errors.OutOfMemory f none memory (written, t) = absurd (memory refl)
