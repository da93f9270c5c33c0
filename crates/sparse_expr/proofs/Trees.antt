-- The tree of tokens in postfix order, found with a stack.
use Rattle.std.proofs.Common.{◌≡◌, ℕ, ◌+◌, ◌-◌, ◌≤◌, inl, inr, List, [], ◌∷◌, ◌++◌, map, Option}
use Rattle.std.proofs.Common.{Some, None, cond, refl, sym, ap, subst, ◌∙◌, append_assoc, arith}
use Rattle.std.specs.Prelude.{count_by}
use Rattle.std.proofs.lemmas.List.{map-append, append-nil}
use Rattle.sparse_expr.specs.declared.words.Token.{Token}
use Rattle.sparse_expr.specs.declared.words.Token.TheVariants.{Operand, Plus, Minus, Times, Transpose}
use Rattle.sparse_expr.specs.declared.words.Token.TheVariants.{Negate}
use Rattle.sparse_expr.specs.declared.expr.Expr.{Expr}
use Rattle.sparse_expr.specs.declared.expr.Expr.TheVariants as tree
use Rattle.sparse_expr.specs.declared.error.ExprError.{ExprError}
use Rattle.sparse_expr.specs.PostfixWords.{is_operand, is_binary, takes, height, token_of, postfix}
use Rattle.sparse_expr.specs.PostfixWords.{IsFirstFault, IsRefused, IsSaid}
use Rattle.sparse_expr.specs.OneTree.{Tree, Leaf, Single, Pair, tree_of}
use Rattle.sparse_expr.proofs.Postfix.{height-stack, operands-append, operators-append}

-- ---- the tokens of a tree leave that tree on a stack

abbrev single : Token → List Tree → List Tree
single t [] = []
single t (x ∷ s) = Single t x ∷ s

abbrev pair : Token → List Tree → List Tree
pair t [] = []
pair t (y ∷ []) = []
pair t (y ∷ (x ∷ s)) = Pair t x y ∷ s

abbrev step : Token → List Tree → List Tree
step (Operand n) s = Leaf n ∷ s
step Plus s = pair Plus s
step Minus s = pair Minus s
step Times s = pair Times s
step Transpose s = single Transpose s
step Negate s = single Negate s

abbrev run : List Token → List Tree → List Tree
run [] s = s
run (t ∷ ts) s = run ts (step t s)

run-append : (xs ys : List Token) (s : List Tree) → run (xs ++ ys) s ≡ run ys (run xs s)
run-append [] ys s = refl
run-append (x ∷ xs) ys s = run-append xs ys (step x s)

run-pair : (xs ys : List Token) (t : Token) (x y : Tree) (s : List Tree)
    → run xs s ≡ x ∷ s → run ys (x ∷ s) ≡ y ∷ (x ∷ s)
    → step t (y ∷ (x ∷ s)) ≡ Pair t x y ∷ s
    → run (xs ++ (ys ++ (t ∷ []))) s ≡ Pair t x y ∷ s
run-pair xs ys t x y s hx hy ht =
    run-append xs (ys ++ (t ∷ [])) s ∙ ap (run (ys ++ (t ∷ []))) hx ∙ run-append ys (t ∷ []) (x ∷ s)
    ∙ ap (run (t ∷ [])) hy ∙ ht

run-single : (xs : List Token) (t : Token) (x : Tree) (s : List Tree)
    → run xs s ≡ x ∷ s → step t (x ∷ s) ≡ Single t x ∷ s
    → run (xs ++ (t ∷ [])) s ≡ Single t x ∷ s
run-single xs t x s hx ht = run-append xs (t ∷ []) s ∙ ap (run (t ∷ [])) hx ∙ ht

run-postfix : (e : Expr) (s : List Tree) → run (postfix e) s ≡ tree_of e ∷ s
run-postfix (tree.Input n) s = refl
run-postfix (tree.Add' p a q b) s = run-pair (postfix a) (postfix b) Plus (tree_of a) (tree_of b) s
    (run-postfix a s) (run-postfix b (tree_of a ∷ s)) refl
run-postfix (tree.Sub' p a q b) s = run-pair (postfix a) (postfix b) Minus (tree_of a) (tree_of b) s
    (run-postfix a s) (run-postfix b (tree_of a ∷ s)) refl
run-postfix (tree.Mul' p a q b) s = run-pair (postfix a) (postfix b) Times (tree_of a) (tree_of b) s
    (run-postfix a s) (run-postfix b (tree_of a ∷ s)) refl
run-postfix (tree.Transpose' p a) s = run-single (postfix a) Transpose (tree_of a) s (run-postfix a s)
    refl
run-postfix (tree.Neg' p a) s = run-single (postfix a) Negate (tree_of a) s (run-postfix a s) refl

-- ---- the tokens of words

abbrev somes : List (Option Token) → List Token
somes [] = []
somes (None ∷ os) = somes os
somes (Some t ∷ os) = t ∷ somes os

somes-map : (ts : List Token) → somes (map Some ts) ≡ ts
somes-map [] = refl
somes-map (t ∷ ts) = ap (λ l. t ∷ l) (somes-map ts)

somes-append : (ts : List Token) (os : List (Option Token))
    → somes (map Some ts ++ os) ≡ ts ++ somes os
somes-append [] os = refl
somes-append (t ∷ ts) os = ap (λ l. t ∷ l) (somes-append ts os)

top : List Tree → Tree
top [] = Leaf 0
top (x ∷ s) = x

pub one_tree : (words : List (List ℕ)) (a b : Expr) → IsSaid words a → IsSaid words b
    → tree_of a ≡ tree_of b
unfolding top
one_tree words a b ha hb =
    let same : postfix a ≡ postfix b = sym (somes-map (postfix a)) ∙ ap somes (sym ha ∙ hb)
    ∙ somes-map (postfix b) in
    ap top (sym (run-postfix a []) ∙ ap (λ ts. run ts []) same ∙ run-postfix b [])

-- ---- each token of a tree finds its operands

-- the number of operands after a token, from the number before it
abbrev after : ℕ → Token → ℕ
after h t = h + 1 - takes t

abbrev Enough : ℕ → List Token → Type 0
Enough h [] = Unit {0}
Enough h (t ∷ ts) = (takes t ≤ h) × Enough (after h t) ts

-- the tokens find their operands on a stack of any height, and leave one operand more
abbrev IsWhole : List Token → Type 0
IsWhole xs = (h : ℕ) (rest : List Token) → Enough (h + 1) rest → Enough h (xs ++ rest)

whole-pair : (xs ys : List Token) (t : Token) → takes t ≡ 2 → IsWhole xs → IsWhole ys
    → IsWhole (xs ++ (ys ++ (t ∷ [])))
whole-pair xs ys t two px py h rest enough =
    let at : h + 1 ≡ after (h + 1 + 1) t = omega (arith, two) in
    let le : takes t ≤ h + 1 + 1 = omega (arith, two) in
    subst (Enough h) (sym (append_assoc xs (ys ++ (t ∷ [])) rest))
    (px h ((ys ++ (t ∷ [])) ++ rest)
    (subst (Enough (h + 1)) (sym (append_assoc ys (t ∷ []) rest))
    (py (h + 1) (t ∷ rest) (le, subst (λ k. Enough k rest) at enough))))

whole-single : (xs : List Token) (t : Token) → takes t ≡ 1 → IsWhole xs → IsWhole (xs ++ (t ∷ []))
whole-single xs t alone px h rest enough =
    let at : h + 1 ≡ after (h + 1) t = omega (arith, alone) in
    let le : takes t ≤ h + 1 = omega (arith, alone) in
    subst (Enough h) (sym (append_assoc xs (t ∷ []) rest))
    (px h (t ∷ rest) (le, subst (λ k. Enough k rest) at enough))

whole-postfix : (e : Expr) → IsWhole (postfix e)
whole-postfix (tree.Input n) = λ h rest enough.
    let at : h + 1 ≡ h + 1 - 0 = omega arith in
    (omega arith, subst (λ k. Enough k rest) at enough)
whole-postfix (tree.Add' p a q b) = whole-pair (postfix a) (postfix b) Plus refl (whole-postfix a)
    (whole-postfix b)
whole-postfix (tree.Sub' p a q b) = whole-pair (postfix a) (postfix b) Minus refl (whole-postfix a)
    (whole-postfix b)
whole-postfix (tree.Mul' p a q b) = whole-pair (postfix a) (postfix b) Times refl (whole-postfix a)
    (whole-postfix b)
whole-postfix (tree.Transpose' p a) = whole-single (postfix a) Transpose refl (whole-postfix a)
whole-postfix (tree.Neg' p a) = whole-single (postfix a) Negate refl (whole-postfix a)

-- the number of operands after tokens, by recursion
abbrev level : ℕ → List Token → ℕ
level h [] = h
level h (t ∷ ts) = level (after h t) ts

Enough-initial : (h : ℕ) (xs ys : List Token) → Enough h (xs ++ ys) → Enough h xs
Enough-initial h [] ys enough = tt
Enough-initial h (x ∷ xs) ys enough = (enough.0, Enough-initial (after h x) xs ys enough.1)

Enough-next : (h : ℕ) (xs : List Token) (t : Token) (ys : List Token)
    → Enough h (xs ++ (t ∷ ys)) → takes t ≤ level h xs
Enough-next h [] t ys enough = enough.0
Enough-next h (x ∷ xs) t ys enough = Enough-next (after h x) xs t ys enough.1

-- how a token changes the counts of operands and of binary operators
count-token : (t : Token) (h : ℕ) → takes t ≤ h
    → h + cond (is_operand t) 1 0 ≡ cond (is_binary t) 1 0 + after h t
count-token (Operand n) h le = omega arith
count-token Plus h le = omega (arith, le)
count-token Minus h le = omega (arith, le)
count-token Times h le = omega (arith, le)
count-token Transpose h le = omega (arith, le)
count-token Negate h le = omega (arith, le)

level-counts : (h : ℕ) (xs : List Token) → Enough h xs
    → h + count_by is_operand xs ≡ count_by is_binary xs + level h xs
level-counts h [] enough = omega arith
level-counts h (x ∷ xs) enough =
    let rest = level-counts (after h x) xs enough.1 in
    let o : count_by is_operand (x ∷ []) ≡ 0 + cond (is_operand x) 1 0 = refl in
    let b : count_by is_binary (x ∷ []) ≡ 0 + cond (is_binary x) 1 0 = refl in
    omega (
      arith,
      count-token x h enough.0,
      rest,
      o,
      b,
      operands-append (x ∷ []) xs,
      operators-append (x ∷ []) xs,
    )

-- each token of a tree finds its operands among the tokens before it
enough-at : (e : Expr) (before : List Token) (t : Token) (more : List Token)
    → postfix e ≡ before ++ (t ∷ more) → takes t ≤ height before
enough-at e before t more split =
    let all : Enough 0 (postfix e ++ []) = whole-postfix e 0 [] tt in
    let here : Enough 0 (before ++ (t ∷ more)) = subst (Enough 0) (append-nil (postfix e) ∙ split)
    all in
    omega (
      arith,
      Enough-next 0 before t more here,
      level-counts 0 before (Enough-initial 0 before (t ∷ more) here),
    )

-- ---- words that give a tree have no error

no-none : (ts : List Token) (rest : List (Option Token)) (us : List Token)
    → map Some ts ++ (None ∷ rest) ≡ map Some us → ⊥
no-none [] rest [] e = absurd cc
no-none [] rest (u ∷ us) e = absurd cc
no-none (t ∷ ts) rest [] e = absurd cc
no-none (t ∷ ts) rest (u ∷ us) e = no-none ts rest us cc

module _ (words : List (List ℕ)) (a : Expr) (said : IsSaid words a) where
  no-fault : (e : ExprError) → IsFirstFault words e → ⊥
  no-fault e f =
      let parts : map Some f.tokens ++ (token_of f.word ∷ map token_of f.after) ≡ map Some
      (postfix a) =
      ap (λ l. l ++ (token_of f.word ∷ map token_of f.after)) (sym f.fine.said)
      ∙ sym (map-append token_of f.before (f.word ∷ f.after)) ∙ ap (map token_of) (sym f.split)
      ∙ said in
      elim f.here [
        | inl bad ↦ no-none f.tokens (map token_of f.after) (postfix a)
            (ap (λ o. map Some f.tokens ++ (o ∷ map token_of f.after)) (sym bad.0) ∙ parts)
        | inr missing ↦
            let split : postfix a ≡ f.tokens ++ (missing.0 ∷ somes (map token_of f.after)) =
            sym (somes-map (postfix a)) ∙ ap somes (sym parts)
            ∙ somes-append f.tokens (token_of f.word ∷ map token_of f.after)
            ∙ ap (λ o. f.tokens ++ somes (o ∷ map token_of f.after)) missing.1 in
            absurd (omega (
              arith,
              enough-at a f.tokens missing.0 (somes (map token_of f.after))
                  split,
              missing.2,
            ))
      ]

  pub not_refused : (e : ExprError) → IsRefused words e → ⊥
  not_refused e refused = elim refused [
    | inl first ↦ no-fault e first
    | inr end ↦
        let same : end.0 ≡ postfix a ++ [] = sym (somes-map end.0)
        ∙ ap somes (sym end.1.said ∙ said) ∙ somes-map (postfix a)
        ∙ sym (append-nil (postfix a)) in
        let high : height end.0 ≡ 1 = ap height same ∙ height-stack (a ∷ []) in
        elim end.2 [
          | inl none ↦ absurd (omega (arith, high, none.0))
          | inr over ↦ absurd (omega (arith, high, over.0))
        ]
  ]
