-- Lists of words that are size lines or data lines, by their length and their words.
use Rattle.std.proofs.Common.{◌≡◌, ℕ, Bool, true, false, List, [], ◌∷◌, Some, None, refl, ap, ◌∙◌}
use Rattle.std.proofs.lemmas.Bool.{and_left, and_right}
use Rattle.sparse_parser.specs.declared.header.Header.{Header}
use Rattle.sparse_parser.specs.Grammar.{is_index, is_number, is_size, is_entry}
use Rattle.sparse_parser.specs.Reads.{Read}
use Rattle.sparse_parser.specs.Meaning.{Sizes, sizes_of}
use Rattle.sparse_parser.specs.InnerReading.{size_at}
use Rattle.sparse_parser.proofs.NumberLaws.{index-number, false-before}

-- ---- size lines

pub size_none : (h : Header) (words : List (List ℕ)) → None ≡ size_at h words
    → is_size words ≡ false
unfolding size_at
size_none h words e = by (is_size words) refl
  where
    by : (t : Bool) → is_size words ≡ t → is_size words ≡ false
    by true f = absurd (let g : size_at h words ≡ Some (sizes_of h words) = rw f refl in cc)
    by false f = f

pub size_some : (h : Header) (words : List (List ℕ)) (s : Read Sizes) → Some s ≡ size_at h words
    → (is_size words ≡ true) × (s ≡ sizes_of h words)
unfolding size_at
size_some h words s e = by (is_size words) refl
  where
    by : (t : Bool) → is_size words ≡ t → (is_size words ≡ true) × (s ≡ sizes_of h words)
    by true f = (f, let g : size_at h words ≡ Some (sizes_of h words) = rw f refl in cc)
    by false f = absurd (let g : size_at h words ≡ None = rw f refl in cc)

-- ---- data lines

no_index : (w : List ℕ) → is_number w ≡ false → is_index w ≡ false
no_index w e = false-before (is_index w) (is_number w) (index-number w) e

pub entry_nil : (words : List (List ℕ)) → words ≡ [] → is_entry words ≡ false
unfolding is_entry
entry_nil words e = rw e refl

pub entry_fault_1 : (words : List (List ℕ)) (w : List ℕ) (ws : List (List ℕ)) → words ≡ w ∷ ws
    → is_number w ≡ false → is_entry words ≡ false
unfolding is_entry
entry_fault_1 words w [] e n = ap is_entry e ∙ n
entry_fault_1 words w (b ∷ []) e n = ap is_entry e ∙ rw n refl
entry_fault_1 words w (b ∷ c ∷ []) e n = ap is_entry e ∙ rw (no_index w n) refl
entry_fault_1 words w (b ∷ c ∷ d ∷ []) e n = ap is_entry e ∙ rw (no_index w n) refl
entry_fault_1 words w (b ∷ c ∷ d ∷ f ∷ ws) e n = ap is_entry e

pub entry_fault_2 : (words : List (List ℕ)) (a w : List ℕ) (ws : List (List ℕ)) → words ≡ a ∷ w ∷ ws
    → is_number w ≡ false → is_entry words ≡ false
unfolding is_entry
entry_fault_2 words a w [] e n = ap is_entry e ∙ and_right _ _ n
entry_fault_2 words a w (c ∷ []) e n = ap is_entry e
    ∙ and_left _ _ (and_right (is_index a) _ (no_index w n))
entry_fault_2 words a w (c ∷ d ∷ []) e n = ap is_entry e
    ∙ and_left _ _ (and_left _ _ (and_right (is_index a) _ (no_index w n)))
entry_fault_2 words a w (c ∷ d ∷ f ∷ ws) e n = ap is_entry e

pub entry_more : (words : List (List ℕ)) (a b c d f : List ℕ) (ws : List (List ℕ))
    → words ≡ a ∷ b ∷ c ∷ d ∷ f ∷ ws → is_entry words ≡ false
unfolding is_entry
entry_more words a b c d f ws e = ap is_entry e

pub entry_1 : (a : List ℕ) → is_number a ≡ true → is_entry (a ∷ []) ≡ true
unfolding is_entry
entry_1 a n = n

pub entry_2 : (a b : List ℕ) → is_number a ≡ true → is_number b ≡ true
    → is_entry (a ∷ b ∷ []) ≡ true
unfolding is_entry
entry_2 a b n m = rw (n, m) refl

pub entry_3 : (a b c : List ℕ) → is_index a ≡ true → is_index b ≡ true → is_number c ≡ true
    → is_entry (a ∷ b ∷ c ∷ []) ≡ true
unfolding is_entry
entry_3 a b c i j n = rw (i, j, n) refl
