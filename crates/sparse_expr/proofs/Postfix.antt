-- The tokens of the trees on a stack, and the words read so far.
use Rattle.std.proofs.Common.{◌≡◌, ℕ, zero, suc, ◌+◌, ◌<◌, ◌≤◌, ◌⊎◌, inl, inr, List, [], ◌∷◌, ◌++◌}
use Rattle.std.proofs.Common.{length, map, take, drop, get_or, slice_get, Some, cond, true, false}
use Rattle.std.proofs.Common.{refl, sym, ap, subst, ◌∙◌, append_assoc, take-append-drop, arith}
use Rattle.std.specs.Prelude.{count_by}
use Rattle.std.specs.List.{flat_map}
use Rattle.std.proofs.lemmas.List.{map_push, take_more, take_all, length-map, get_or-map}
use denote.Ref.{Bor}
use Rattle.std.proofs.lemmas.List.Sums.{sum_by-append}
use Rattle.sparse_expr.specs.declared.words.Token.{Token}
use Rattle.sparse_expr.specs.declared.words.Token.TheVariants.{Plus, Minus, Times, Transpose, Negate}
use Rattle.sparse_expr.specs.declared.expr.Expr.{Expr}
use Rattle.sparse_expr.specs.declared.expr.Expr.TheVariants as tree
use Rattle.sparse_expr.specs.declared.error.ExprError.{ExprError}
use Rattle.sparse_expr.specs.PostfixWords.{is_operand, is_binary, takes, height, token_of, texts}
use Rattle.sparse_expr.specs.PostfixWords.{postfix, AreFine, IsFault, IsRefused}

pub operands-append : (xs ys : List Token)
    → count_by is_operand (xs ++ ys) ≡ count_by is_operand xs + count_by is_operand ys
operands-append xs ys = sum_by-append (λ t. cond (is_operand t) 1 0) xs ys

pub operators-append : (xs ys : List Token)
    → count_by is_binary (xs ++ ys) ≡ count_by is_binary xs + count_by is_binary ys
operators-append xs ys = sum_by-append (λ t. cond (is_binary t) 1 0) xs ys

-- the counts of a binary operator's token and its two operands
joined : (a b : Expr) (t : Token) → is_operand t ≡ false → is_binary t ≡ true
    → count_by is_operand (postfix a) ≡ count_by is_binary (postfix a) + 1
    → count_by is_operand (postfix b) ≡ count_by is_binary (postfix b) + 1
    → count_by is_operand (postfix a ++ (postfix b ++ (t ∷ [])))
    ≡ count_by is_binary (postfix a ++ (postfix b ++ (t ∷ []))) + 1
joined a b t eo eb ha hb =
    let o : count_by is_operand (t ∷ []) ≡ 0 = ap (λ c. 0 + cond c 1 0) eo in
    let k : count_by is_binary (t ∷ []) ≡ 1 = ap (λ c. 0 + cond c 1 0) eb in
    omega (
      arith,
      operands-append (postfix a) (postfix b ++ (t ∷ [])),
      operators-append (postfix a) (postfix b ++ (t ∷ [])),
      operands-append (postfix b) (t ∷ []),
      operators-append (postfix b) (t ∷ []),
      ha,
      hb,
      o,
      k,
    )

-- the counts of a unary operator's token and its operand
changed : (a : Expr) (t : Token) → is_operand t ≡ false → is_binary t ≡ false
    → count_by is_operand (postfix a) ≡ count_by is_binary (postfix a) + 1
    → count_by is_operand (postfix a ++ (t ∷ [])) ≡ count_by is_binary (postfix a ++ (t ∷ [])) + 1
changed a t eo eb ha =
    let o : count_by is_operand (t ∷ []) ≡ 0 = ap (λ c. 0 + cond c 1 0) eo in
    let k : count_by is_binary (t ∷ []) ≡ 0 = ap (λ c. 0 + cond c 1 0) eb in
    omega (
      arith,
      operands-append (postfix a) (t ∷ []),
      operators-append (postfix a) (t ∷ []),
      ha,
      o,
      k,
    )

-- a tree has one input more than binary operators
operands-postfix : (e : Expr)
    → count_by is_operand (postfix e) ≡ count_by is_binary (postfix e) + 1
operands-postfix (tree.Input n) = omega arith
operands-postfix (tree.Add' p a q b) = joined a b Plus refl refl (operands-postfix a)
    (operands-postfix b)
operands-postfix (tree.Sub' p a q b) = joined a b Minus refl refl (operands-postfix a)
    (operands-postfix b)
operands-postfix (tree.Mul' p a q b) = joined a b Times refl refl (operands-postfix a)
    (operands-postfix b)
operands-postfix (tree.Transpose' p a) = changed a Transpose refl refl (operands-postfix a)
operands-postfix (tree.Neg' p a) = changed a Negate refl refl (operands-postfix a)

operands-stack : (es : List Expr)
    → count_by is_operand (flat_map postfix es) ≡ count_by is_binary (flat_map postfix es) + length
    es
operands-stack [] = omega arith
operands-stack (e ∷ es) = omega (
  arith,
  operands-append (postfix e) (flat_map postfix es),
  operators-append (postfix e) (flat_map postfix es),
  operands-postfix e,
  operands-stack es,
)

pub height-stack : (es : List Expr) → height (flat_map postfix es) ≡ length es
height-stack es = omega (arith, operands-stack es)

get-push : (ts : List Token) (t u : Token) (k : ℕ) → slice_get (ts ++ t ∷ []) k ≡ Some u
    → ((slice_get ts k ≡ Some u) × (take k (ts ++ t ∷ []) ≡ take k ts))
    ⊎ ((t ≡ u) × (take k (ts ++ t ∷ []) ≡ ts))
get-push [] t u zero h = inr (cc, refl)
get-push [] t u (suc k) h = absurd cc
get-push (x ∷ ts) t u zero h = inl (h, refl)
get-push (x ∷ ts) t u (suc k) h = elim (get-push ts t u k h) [
  | inl before ↦ inl (before.0, ap (λ l. x ∷ l) before.1)
  | inr here ↦ inr (here.0, ap (λ l. x ∷ l) here.1)
]

-- one more word, whose token finds its operands
pub fine-push : (words : List (List ℕ)) (ts : List Token) (word : List ℕ) (t : Token)
    → AreFine words ts → token_of word ≡ Some t → takes t ≤ height ts
    → AreFine (words ++ word ∷ []) (ts ++ t ∷ [])
fine-push words ts word t fine is enough = record {
  said = map_push token_of words word ∙ ap (λ l. l ++ token_of word ∷ []) fine.said
      ∙ ap (λ o. map Some ts ++ o ∷ []) is ∙ sym (map_push Some ts t);
  enough = λ k u h. elim (get-push ts t u k h) [
    | inl before ↦ subst (λ l. takes u ≤ height l) (sym before.1) (fine.enough k u before.0)
    | inr here ↦ subst (λ l. takes u ≤ height l) (sym here.1)
        (subst (λ v. takes v ≤ height ts) here.0 enough)
  ];
}

-- the first k + 1 words are the first k and the next one
pub texts-more : (items : List (Bor (List ℕ))) (k : ℕ) (w : Bor (List ℕ)) → k < length items
    → take (k + 1) (texts items) ≡ take k (texts items) ++ (get_or items k w).now ∷ []
texts-more items k w lt =
    take_more (texts items) k w.now (rw length-map lt) ∙ ap (λ t. take k (texts items) ++ t ∷ [])
    (get_or-map (λ (b : Bor (List ℕ)). b.now) items k w w.now lt)

module _ (items : List (Bor (List ℕ))) (k : ℕ) (w : Bor (List ℕ)) (inside : k < length items)
    (tokens : List Token) (fine : AreFine (take k (texts items)) tokens) where
  -- the loop continues with the token of the next word
  pub fine-more : (t : Token) (more : List Token) → token_of (get_or items k w).now ≡ Some t
      → takes t ≤ height tokens → more ≡ tokens ++ t ∷ []
      → AreFine (take (k + 1) (texts items)) more
  fine-more t more is enough e = rw (texts-more items k w inside, e)
      (fine-push (take k (texts items)) tokens (get_or items k w).now t fine is enough)

  -- or it ends at the next word, which is the first with an error
  pub ends-at : (e : ExprError) → IsFault tokens (get_or items k w).now e
      → IsRefused (texts items) e
  ends-at e fault = inl (record {
    before = take k (texts items);
    word = (get_or items k w).now;
    after = drop (k + 1) (texts items);
    tokens = tokens;
    split = sym (take-append-drop (k + 1) (texts items)) ∙ ap (λ l. l ++ drop (k + 1) (texts items))
        (texts-more items k w inside) ∙ append_assoc (take k (texts items))
        ((get_or items k w).now ∷ []) (drop (k + 1) (texts items));
    fine = fine;
    here = fault;
  })

-- all words are tokens
pub fine-all : (items : List (Bor (List ℕ))) (k : ℕ) (tokens : List Token) → length items ≤ k
    → AreFine (take k (texts items)) tokens → AreFine (texts items) tokens
fine-all items k tokens all fine = subst (λ l. AreFine l tokens)
    (take_all k (texts items) (rw length-map all)) fine
