-- The longest prefix of a text whose bytes pass a test, and the prefix that a loop has tested.
use Rattle.std.proofs.Common.{◌≡◌, ℕ, ◌+◌, ◌-◌, ◌≤◌, ◌<◌, Bool, true, false, List, [], ◌∷◌, ◌++◌}
use Rattle.std.proofs.Common.{length, get_or, take, drop, refl, sym, ap, subst, ◌∙◌, arith, one-add}
use Rattle.std.proofs.Common.{length-drop, drop-drop}
use Rattle.std.proofs.lemmas.List.{drop_more, drop_all}
use Rattle.std.specs.List.{AllByRecursion, list_all, prefix_len}
use Rattle.core.proofs.slice.Prefixes.{prefix_len-le-length}
use Rattle.sparse_parser.specs.Bytes.{leading, after}

pub leading-yes : (p : ℕ → Bool) (b : ℕ) (text : List ℕ) → p b ≡ true
    → leading p (b ∷ text) ≡ b ∷ leading p text
leading-yes p b text e = rw e refl

pub leading-no : (p : ℕ → Bool) (b : ℕ) (text : List ℕ) → p b ≡ false → leading p (b ∷ text) ≡ []
leading-no p b text e = rw e refl

pub after-yes : (p : ℕ → Bool) (b : ℕ) (text : List ℕ) → p b ≡ true
    → after p (b ∷ text) ≡ after p text
after-yes p b text e = rw e refl

pub after-no : (p : ℕ → Bool) (b : ℕ) (text : List ℕ) → p b ≡ false → after p (b ∷ text) ≡ b ∷ text
after-no p b text e = rw e refl

-- the first i bytes pass the test
pub record IsPassed (p : ℕ → Bool) (text : List ℕ) (i : ℕ) : Type 0 where
  pub room : i ≤ length text
  pub rest : after p (drop i text) ≡ after p text
  pub passed : take i text ++ leading p (drop i text) ≡ leading p text

-- ---- the prefix and the text after it, without a loop

pub leading-append-after : (p : ℕ → Bool) (text : List ℕ) → leading p text ++ after p text ≡ text
leading-append-after p [] = refl
leading-append-after p (b ∷ text) = by (p b) refl (leading-append-after p text)
  where
    by : (t : Bool) → p b ≡ t → leading p text ++ after p text ≡ text
        → leading p (b ∷ text) ++ after p (b ∷ text) ≡ b ∷ text
    by true e h = rw e (ap (λ (t : List ℕ). b ∷ t) h)
    by false e h = rw e refl

pub after-none : (p : ℕ → Bool) (text : List ℕ) → leading p text ≡ [] → after p text ≡ text
after-none p text e = ap (λ (t : List ℕ). t ++ after p text) (sym e) ∙ leading-append-after p text

-- every byte passes the test
abbrev pub Passes : (ℕ → Bool) → List ℕ → Type 0
Passes p text = AllByRecursion (λ b. p b ≡ true) text

-- the text is empty, or its first byte fails the test
abbrev pub IsStopped : (ℕ → Bool) → List ℕ → Type 0
IsStopped p [] = Unit {0}
IsStopped p (b ∷ text) = p b ≡ false

pub Passes-leading : (p : ℕ → Bool) (text : List ℕ) → Passes p (leading p text)
Passes-leading p [] = tt
Passes-leading p (b ∷ text) = by (p b) refl (Passes-leading p text)
  where
    by : (t : Bool) → p b ≡ t → Passes p (leading p text) → Passes p (leading p (b ∷ text))
    by true e h = subst (Passes p) (sym (leading-yes p b text e)) (e, h)
    by false e h = subst (Passes p) (sym (leading-no p b text e)) tt

pub IsStopped-after : (p : ℕ → Bool) (text : List ℕ) → IsStopped p (after p text)
IsStopped-after p [] = tt
IsStopped-after p (b ∷ text) = by (p b) refl (IsStopped-after p text)
  where
    by : (t : Bool) → p b ≡ t → IsStopped p (after p text) → IsStopped p (after p (b ∷ text))
    by true e h = subst (IsStopped p) (sym (after-yes p b text e)) h
    by false e h = subst (IsStopped p) (sym (after-no p b text e)) e

-- the prefix of a text that passes, followed by a text whose first byte fails
pub leading-append : (p : ℕ → Bool) (passed rest : List ℕ) → Passes p passed → IsStopped p rest
    → leading p (passed ++ rest) ≡ passed
leading-append p [] [] h stop = refl
leading-append p [] (b ∷ rest) h stop = leading-no p b rest stop
leading-append p (b ∷ passed) rest h stop = leading-yes p b (passed ++ rest) h.0
    ∙ ap (λ (t : List ℕ). b ∷ t) (leading-append p passed rest h.1 stop)

pub after-append : (p : ℕ → Bool) (passed rest : List ℕ) → Passes p passed → IsStopped p rest
    → after p (passed ++ rest) ≡ rest
after-append p [] [] h stop = refl
after-append p [] (b ∷ rest) h stop = after-no p b rest stop
after-append p (b ∷ passed) rest h stop = after-yes p b (passed ++ rest) h.0
    ∙ after-append p passed rest h.1 stop

-- prepending bytes that pass extends the prefix
pub leading-append_passes : (p : ℕ → Bool) (passed rest : List ℕ) → Passes p passed
    → leading p (passed ++ rest) ≡ passed ++ leading p rest
leading-append_passes p [] rest h = refl
leading-append_passes p (b ∷ passed) rest h = leading-yes p b (passed ++ rest) h.0
    ∙ ap (λ (t : List ℕ). b ∷ t) (leading-append_passes p passed rest h.1)

pub after-append_passes : (p : ℕ → Bool) (passed rest : List ℕ) → Passes p passed
    → after p (passed ++ rest) ≡ after p rest
after-append_passes p [] rest h = refl
after-append_passes p (b ∷ passed) rest h = after-yes p b (passed ++ rest) h.0
    ∙ after-append_passes p passed rest h.1

pub length-after : (p : ℕ → Bool) (text : List ℕ) → length (after p text) ≤ length text
length-after p [] = omega arith
length-after p (b ∷ text) = by (p b) refl (length-after p text)
  where
    by : (t : Bool) → p b ≡ t → length (after p text) ≤ length text
        → length (after p (b ∷ text)) ≤ length (b ∷ text)
    by true e h = rw e (omega arith)
    by false e h = rw e (omega arith)

pub length-after-lt : (p : ℕ → Bool) (b : ℕ) (text : List ℕ) → p b ≡ true
    → length (after p (b ∷ text)) < length (b ∷ text)
length-after-lt p b text e = rw e (let h = length-after p text in omega arith)

-- the prefix ends where the loop ends
pub leading-drop_all : (p : ℕ → Bool) (text : List ℕ) (i : ℕ) → length text ≤ i
    → leading p (drop i text) ≡ []
leading-drop_all p text i le = ap (leading p) (drop_all i text le)

pub leading-drop_stop : (p : ℕ → Bool) (text : List ℕ) (i : ℕ) → i < length text
    → p (get_or text i 0) ≡ false → leading p (drop i text) ≡ []
leading-drop_stop p text i lt e = ap (leading p) (drop_more text i 0 lt) ∙ leading-no p _ _ e

-- a text that passes as a whole is its own prefix
pub list_all-leading : (p : ℕ → Bool) (word : List ℕ) → list_all p word ≡ true → leading p word ≡ word
list_all-leading p [] h = refl
list_all-leading p (b ∷ word) h = by (p b) refl (list_all-leading p word)
  where
    by : (t : Bool) → p b ≡ t → (list_all p word ≡ true → leading p word ≡ word)
        → leading p (b ∷ word) ≡ b ∷ word
    by true e rest = let k : list_all p word ≡ true =
        sym (let r : list_all p (b ∷ word) ≡ list_all p word = rw e refl in r)
        ∙ h in leading-yes p b word e ∙ ap (λ (t : List ℕ). b ∷ t) (rest k)
    by false e rest = absurd (let r : list_all p (b ∷ word) ≡ false = rw e refl in cc)

-- the prefix and the text after it, by the length of the prefix
module _ (p : ℕ → Bool) where
  pub leading_take : (text : List ℕ) → leading p text ≡ take (prefix_len p text) text
  leading_take [] = refl
  leading_take (b ∷ text) = by (p b) refl (leading_take text)
    where
      by : (t : Bool) → p b ≡ t → leading p text ≡ take (prefix_len p text) text
          → leading p (b ∷ text) ≡ take (prefix_len p (b ∷ text)) (b ∷ text)
      by true e h = rw (e, one-add (prefix_len p text)) (ap (λ (t : List ℕ). b ∷ t) h)
      by false e h = rw e refl

  pub after_drop : (text : List ℕ) → after p text ≡ drop (prefix_len p text) text
  after_drop [] = refl
  after_drop (b ∷ text) = by (p b) refl (after_drop text)
    where
      by : (t : Bool) → p b ≡ t → after p text ≡ drop (prefix_len p text) text
          → after p (b ∷ text) ≡ drop (prefix_len p (b ∷ text)) (b ∷ text)
      by true e h = rw (e, one-add (prefix_len p text)) h
      by false e h = rw e refl

-- the text after the prefix is an end of the text
drop_end : (text rest : List ℕ) (k : ℕ) → k ≤ length text → rest ≡ drop k text
    → rest ≡ drop (length text - length rest) text
drop_end text rest k le e =
    let same : k ≡ length text - length rest = omega (arith, length-drop k text, ap length e) in
    e ∙ ap (λ (n : ℕ). drop n text) same

pub after_is_end : (p : ℕ → Bool) (text : List ℕ)
    → after p text ≡ drop (length text - length (after p text)) text
after_is_end p text = drop_end text (after p text) (prefix_len p text)
    (prefix_len-le-length p text) (after_drop p text)

-- an end of an end of a text is an end of the text
pub end_of_end : (text mid rest : List ℕ) → length mid ≤ length text → length rest ≤ length mid
    → mid ≡ drop (length text - length mid) text → rest ≡ drop (length mid - length rest) mid
    → rest ≡ drop (length text - length rest) text
end_of_end text mid rest m r at e =
    drop_end text rest (length text - length mid + (length mid - length rest)) (omega arith)
    (e ∙ ap (drop (length mid - length rest)) at
    ∙ drop-drop (length mid - length rest) (length text - length mid) text)
