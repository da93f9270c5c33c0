-- Words in postfix order, and the expression that they give.
use Rattle.std.specs.Prelude.{◌≡◌, ◌⊎◌, ℕ, ◌-◌, ◌<◌, ◌≤◌, ◌^◌, ◌==◌, ◌&&◌, Bool, true, false}
use Rattle.std.specs.Prelude.{if◌then◌else◌, nat_lt, List, [], ◌∷◌, ◌++◌, map, take, slice_get}
use Rattle.std.specs.Prelude.{count_by, Option, Some, None}
use Rattle.std.specs.Str.{bytes_eq}
use Rattle.std.specs.Str.Parse.{digits_value}
use denote.Ref.{Bor}
use Rattle.sparse_parser.specs.Words.{words_between}
use Rattle.sparse_parser.specs.Grammar.{is_index}
use Rattle.sparse_expr.specs.declared.words.Token.{Token}
use Rattle.sparse_expr.specs.declared.words.Token.TheVariants.{Operand, Plus, Minus, Times, Transpose}
use Rattle.sparse_expr.specs.declared.words.Token.TheVariants.{Negate}
use Rattle.sparse_expr.specs.declared.expr.Expr.{Expr}
use Rattle.sparse_expr.specs.declared.expr.Expr.TheVariants as tree
use Rattle.sparse_expr.specs.declared.error.ExprError.{ExprError}
use Rattle.sparse_expr.specs.declared.error.ExprError.TheVariants.{BadWord, MissingOperand}
use Rattle.sparse_expr.specs.declared.error.ExprError.TheVariants.{LeftOver}

-- the bytes of borrowed words
abbrev pub texts : List (Bor (List ℕ)) → List (List ℕ)
texts words = map (λ word. word.now) words

abbrev pub is_separator : ℕ → Bool
is_separator b = b == 32

-- the words of a text: its longest runs without a space
abbrev pub words_of : List ℕ → List (List ℕ)
words_of text = words_between is_separator text

-- the number of an input counts from 1 and fits in usize
abbrev pub operand_of : ℕ → Option Token
operand_of n = if nat_lt 0 n && nat_lt n (2 ^ 64) then Some (Operand n) else None

-- the operator of a word that is not a number: `+`, `-`, `*`, `t`, `n`
abbrev pub operator_of : List ℕ → Option Token
operator_of word = if bytes_eq word (43 ∷ []) then Some Plus
    else (if bytes_eq word (45 ∷ []) then Some Minus
    else (if bytes_eq word (42 ∷ []) then Some Times
    else (if bytes_eq word (116 ∷ []) then Some Transpose
    else (if bytes_eq word (110 ∷ []) then Some Negate else None))))

-- the token of a word: the number of an input, or an operator
abbrev pub token_of : List ℕ → Option Token
token_of word = if is_index word then operand_of (digits_value 10 word) else operator_of word

abbrev pub is_operand : Token → Bool
is_operand (Operand n) = true
is_operand _ = false

-- whether the token is an operator with two operands
abbrev pub is_binary : Token → Bool
is_binary Plus = true
is_binary Minus = true
is_binary Times = true
is_binary _ = false

-- the number of operands of a token
abbrev pub takes : Token → ℕ
takes (Operand n) = 0
takes Plus = 2
takes Minus = 2
takes Times = 2
takes Transpose = 1
takes Negate = 1

-- the number of operands on the stack after these tokens: that of the inputs, less one for each of
-- `+`, `-`, `*`
abbrev pub height : List Token → ℕ
height tokens = count_by is_operand tokens - count_by is_binary tokens

-- the words are these tokens, and each token finds its operands on the stack
pub record AreFine (words : List (List ℕ)) (tokens : List Token) : Type 0 where
  pub said : map token_of words ≡ map Some tokens
  pub enough : (k : ℕ) (t : Token) → slice_get tokens k ≡ Some t → takes t ≤ height (take k tokens)

-- the error of a word after these tokens: it is no token, or has more operands than the stack
abbrev pub IsFault : List Token → List ℕ → ExprError → Type 0
IsFault before word e = ((token_of word ≡ None) × (e ≡ BadWord))
    ⊎ ((t : Token) × (token_of word ≡ Some t) × (height before < takes t) × (e ≡ MissingOperand))

-- the first word with an error, and that error
pub record IsFirstFault (words : List (List ℕ)) (e : ExprError) : Type 0 where
  pub before : List (List ℕ)
  pub word : List ℕ
  pub after : List (List ℕ)
  pub tokens : List Token
  pub split : words ≡ before ++ word ∷ after
  pub fine : AreFine before tokens
  pub here : IsFault tokens word e

-- the words give no expression: a word has an error, or the stack ends with no operand or with more
-- than one
abbrev pub IsRefused : List (List ℕ) → ExprError → Type 0
IsRefused words e = IsFirstFault words e
    ⊎ ((tokens : List Token) × AreFine words tokens
    × (((height tokens ≡ 0) × (e ≡ MissingOperand)) ⊎ ((1 < height tokens) × (e ≡ LeftOver))))

-- the tokens of an expression in postfix order
abbrev pub postfix : Expr → List Token
postfix (tree.Input n) = Operand n ∷ []
postfix (tree.Add' p a q b) = postfix a ++ (postfix b ++ (Plus ∷ []))
postfix (tree.Sub' p a q b) = postfix a ++ (postfix b ++ (Minus ∷ []))
postfix (tree.Mul' p a q b) = postfix a ++ (postfix b ++ (Times ∷ []))
postfix (tree.Transpose' p a) = postfix a ++ (Transpose ∷ [])
postfix (tree.Neg' p a) = postfix a ++ (Negate ∷ [])

-- the words are the expression in postfix order
abbrev pub IsSaid : List (List ℕ) → Expr → Type 0
IsSaid words expr = map token_of words ≡ map Some (postfix expr)
