-- The files that were read, with their texts or errors.
use Rattle.std.specs.Prelude.{◌≡◌, ◌+◌, ◌++◌, length, ℕ, List, [], ◌∷◌, Result, Ok, Err, String, string_bytes}
use Rattle.std.specs.declared.io.Error.{Error}

-- the path of a file, and its text, or the error of opening or reading it
abbrev pub Reading : Type 0
Reading = List ℕ × Result (List ℕ) Error

-- the path of a file, and its text or the error of reading it
abbrev pub reading_of : {A : Type 0} → List ℕ → Result (String A) Error → Reading
reading_of path (Ok text) = (path, Ok (string_bytes text))
reading_of path (Err error) = (path, Err error)

-- the next file was read; it has this path and this text
abbrev pub IsRead : List ℕ → List Reading → List Reading → List ℕ → Type 0
IsRead path old new text = new ≡ (path, Ok text) ∷ old

-- the files were read in this order, and have these texts
abbrev pub after_reading : List (List ℕ) → List (List ℕ) → List Reading → List Reading
after_reading [] texts old = old
after_reading (path ∷ paths) [] old = old
after_reading (path ∷ paths) (text ∷ texts) old = after_reading paths texts ((path, Ok text) ∷ old)

pub record AreRead (paths : List (List ℕ)) (texts : List (List ℕ)) (old new : List Reading) : Type 0 where
  pub counted : length texts ≡ length paths
  pub readings : new ≡ after_reading paths texts old

-- the next file has this path and could not be read; `fault` gives the failure for its number and the error
abbrev pub IsUnread : {F : Type 0} → (ℕ → Error → F) → ℕ → List ℕ → List Reading → List Reading → F
    → Type 0
IsUnread fault number path old new failure = (error : Error)
    × (new ≡ (path, Err error) ∷ old) × (failure ≡ fault number error)

-- the first of the files that cannot be read, after those before it were, and the failure for its number
pub record IsFirstUnread {F : Type 0} (fault : ℕ → Error → F) (paths : List (List ℕ))
    (old new : List Reading) (failure : F) : Type 0 where
  pub before : List (List ℕ)
  pub path : List ℕ
  pub after : List (List ℕ)
  pub texts : List (List ℕ)
  pub middle : List Reading
  pub split : paths ≡ before ++ path ∷ after
  pub read : AreRead before texts old middle
  pub unread : IsUnread fault (length before + 1) path middle new failure
