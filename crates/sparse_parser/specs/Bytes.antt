-- Classes of bytes, and the longest prefix of a text in a class.
use Rattle.std.specs.Prelude.{ℕ, Bool, ◌||◌, ◌==◌, List, [], ◌∷◌, if◌then◌else◌}

-- space or tab
abbrev pub is_blank : ℕ → Bool
is_blank b = (b == 32) || (b == 9)

-- LF or CR
abbrev pub is_line_end : ℕ → Bool
is_line_end b = (b == 10) || (b == 13)

-- a decimal point
abbrev pub is_point : ℕ → Bool
is_point b = b == 46

-- the letter before an exponent
abbrev pub is_exponent_letter : ℕ → Bool
is_exponent_letter b = (b == 101) || (b == 69)

-- the longest prefix whose bytes all pass the test, and the text after it
abbrev pub leading : (ℕ → Bool) → List ℕ → List ℕ
leading p [] = []
leading p (b ∷ text) = if p b then b ∷ leading p text else []

abbrev pub after : (ℕ → Bool) → List ℕ → List ℕ
after p [] = []
after p (b ∷ text) = if p b then after p text else b ∷ text
