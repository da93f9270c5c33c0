-- Objects in JSON, on one line.
use Rattle.std.specs.Prelude.{ℕ, Bool, true, false, List, ◌++◌, codes}
use Rattle.std.specs.Fmt.{decimal}

-- the beginning of an object, and its first member: a name without characters that JSON escapes, and a value in JSON
unfoldable pub first_member : List ℕ → List ℕ → List ℕ
first_member name value = codes "{\"" ++ (name ++ (codes "\":" ++ value))

-- another member
unfoldable pub member : List ℕ → List ℕ → List ℕ
member name value = codes ",\"" ++ (name ++ (codes "\":" ++ value))

abbrev pub number_member : List ℕ → ℕ → List ℕ
number_member name number = member name (decimal number)

abbrev pub flag_text : Bool → List ℕ
flag_text true = codes "true"
flag_text false = codes "false"

abbrev pub flag_member : List ℕ → Bool → List ℕ
flag_member name flag = member name (flag_text flag)

-- a text without characters that JSON escapes
unfoldable pub quoted : List ℕ → List ℕ
quoted text = codes "\"" ++ (text ++ codes "\"")

-- the end of an object, and a line end
unfoldable pub object_end : List ℕ
object_end = codes "}\n"
