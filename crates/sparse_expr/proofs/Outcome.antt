-- The inputs and the value of a run, as plain matrices over the integers modulo 2^64.
use Rattle.std.proofs.Common.{◌≡◌, ◌⊎◌, inl, inr, ℕ, zero, suc, ◌+◌, Bool, true, false, List, []}
use Rattle.std.proofs.Common.{◌∷◌, ◌++◌, length, map, slice_get, Option, Some, None, Result, Ok}
use Rattle.std.proofs.Common.{Err, refl, sym, ap, subst, ◌∙◌}
use Rattle.std.specs.Prelude.{codes, nat_eq, if◌then◌else◌, ◌||◌, IfErr}
use Rattle.std.specs.List.{list_any, flat_map}
use Rattle.std.specs.Int.{w64}
use Rattle.std.specs.Fmt.{signed_decimal, decimal}
use Rattle.std.proofs.lemmas.List.{length-map}
use Rattle.sparse_algebra.specs.Algebra.{CommRing}
use Rattle.sparse_algebra.specs.Sums.{sum_by, where_true}
use Rattle.sparse_coo_dense.specs.Coo.{Coo, coo_of}
use Rattle.sparse_algebra.specs.Plain.{Plain, is_at, plain_of_triplets, plain_sum, plain_difference}
use Rattle.sparse_algebra.specs.Plain.{plain_product, plain_transpose, plain_negation}
use Rattle.sparse_algebra.specs.Wrapping.{class_of}
use Rattle.sparse_algebra.specs.Numbers.{w64_number}
use Rattle.sparse_algebra.specs.declared.scalar.wrapping.W64.{W64}
use Rattle.sparse_algebra.proofs.PlainLemmas.{same_plain}
use Rattle.sparse_algebra.proofs.WholeNumbers.{number_of-class}
use Rattle.sparse_compressed.specs.Compressed.{Compressed, IsSound, lane_triplets, transposed}
use Rattle.sparse_coo_dense.specs.CooPlain.{plain_of_coo}
use Rattle.sparse_compressed.specs.PlainOfLanes.{plain_of_rows, plain_of_cols, meant}
use Rattle.sparse_compressed.proofs.RowOrder.{row_order-rows}
use Rattle.sparse_compressed.proofs.ColOrder.{col_order-cols}
use Rattle.std.specs.Io.KnownBytes.{Appends}
use Rattle.sparse_io.specs.Sink.{AppendsSome}
use Rattle.sparse_io.specs.Written.{written_text, written_text_with, heading, size_line, triplet_line}
use Rattle.sparse_expr.specs.declared.calculator.Form.{Form}
use Rattle.sparse_expr.specs.declared.calculator.Form.TheVariants.{Rows, Cols}
use Rattle.sparse_expr.specs.declared.expr.Expr.{Expr}
use Rattle.sparse_expr.specs.declared.expr.Expr.TheVariants as tree
use Rattle.sparse_expr.specs.declared.error.ExprError.{ExprError}
use Rattle.sparse_expr.specs.declared.error.ExprError.TheVariants as errors
use Rattle.sparse_expr.specs.Value.{value_of, found, input_at, both, one, same_sizes, sum_of}
use Rattle.sparse_expr.specs.Value.{difference_of, product_of}
use Rattle.sparse_expr.specs.Run.{ring64, element_text, text_in, plains, AllMean, HasOutcome}
use Rattle.sparse_expr.specs.Run.{Writes, WritesSome, Effect, IsUntouched, RefusesRun}
use Rattle.sparse_expr.specs.InnerRun.{numbers_of, text_of_coo, RefusesSave}

-- ---- triplets whose values are mapped to another type first

module _ {T V : Type 0} (h : T → V) where
  abbrev via : List (ℕ × ℕ × T) → List (ℕ × ℕ × V)
  via ts = map (λ t. (t.0, t.1, h t.2)) ts

  any-via : (i j : ℕ) (ts : List (ℕ × ℕ × T))
      → list_any (is_at i j) ts ≡ list_any (is_at i j) (via ts)
  any-via i j [] = refl
  any-via i j (t ∷ ts) = ap (λ b. is_at i j t || b) (any-via i j ts)

  module _ (R : CommRing) (f : V → R.Carrier) where
    sum-via : (i j : ℕ) (ts : List (ℕ × ℕ × T))
        → sum_by R (λ t. where_true R (is_at i j t) (f (h t.2))) ts ≡ sum_by R
        (λ t. where_true R (is_at i j t) (f t.2)) (via ts)
    sum-via i j [] = refl
    sum-via i j (t ∷ ts) = ap (R.add (where_true R (is_at i j t) (f (h t.2)))) (sum-via i j ts)

    plain-via : (rows cols : ℕ) (ts : List (ℕ × ℕ × T))
        → plain_of_triplets R (λ x. f (h x)) rows cols ts ≡ plain_of_triplets R f rows cols (via ts)
    plain-via rows cols ts = same_plain (plain_of_triplets R (λ x. f (h x)) rows cols ts)
        (plain_of_triplets R f rows cols (via ts)) refl refl (λ i j. any-via i j ts)
        (λ i j. sum-via i j ts)

  module _ (text : V → List ℕ) (own : T → List ℕ) (same : (x : T) → text (h x) ≡ own x) where
    lines-via : (ts : List (ℕ × ℕ × T)) → flat_map (triplet_line text) (via ts) ≡ flat_map
        (triplet_line own) ts
    unfolding triplet_line
    lines-via [] = refl
    lines-via (t ∷ ts) =
        ap (λ v. (decimal (t.0 + 1) ++ (32 ∷ (decimal (t.1 + 1) ++ (32 ∷ (v ++ (10 ∷ []))))))
        ++ flat_map (triplet_line text) (via ts)) (same t.2)
        ∙ ap (λ l. triplet_line own t ++ l) (lines-via ts)

    written-via : (name : List ℕ) (rows cols : ℕ) (ts : List (ℕ × ℕ × T))
        → written_text name text rows cols (via ts) ≡ written_text name own rows cols ts
    unfolding written_text_with
    written-via name rows cols ts =
        ap (λ n. heading name ++ (size_line rows cols n ++ flat_map (triplet_line text) (via ts)))
        (length-map ts (λ t. (t.0, t.1, h t.2)))
        ∙ ap (λ l. heading name ++ (size_line rows cols (length ts) ++ l)) (lines-via ts)

-- ---- the inputs

pub plains-loaded : (ms : List (Coo W64))
    → map (λ m. plain_of_coo ring64 (λ x. class_of w64 (w64_number x)) m) ms ≡ plains
    (map numbers_of ms)
plains-loaded [] = refl
plains-loaded (m ∷ ms) =
    ap (λ p. p ∷ map (λ m. plain_of_coo ring64 (λ x. class_of w64 (w64_number x)) m) ms)
    (plain-via w64_number ring64 (class_of w64) m.nrows m.ncols m.triplets)
    ∙ ap (λ ps. plain_of_coo ring64 (class_of w64) (numbers_of m) ∷ ps) (plains-loaded ms)

-- ---- the value

element-text : (x : W64)
    → element_text (class_of w64 (w64_number x)) ≡ signed_decimal (w64_number x)
element-text x = ap signed_decimal (number_of-class w64 x.number x.in_range)

pub text_in-rows : (m : Compressed W64) → IsSound m
    → text_in Rows (plain_of_rows ring64 (λ x. class_of w64 (w64_number x)) m)
    ≡ text_of_coo (coo_of m.pattern.major_dim m.pattern.minor_dim (lane_triplets m))
text_in-rows m sound =
    ap (written_text (codes "integer") element_text m.pattern.major_dim m.pattern.minor_dim)
    (row_order-rows ring64 (λ x. class_of w64 (w64_number x)) m sound)
    ∙ written-via (λ x. class_of w64 (w64_number x)) element_text
    (λ x. signed_decimal (w64_number x)) element-text (codes "integer") m.pattern.major_dim
    m.pattern.minor_dim (lane_triplets m)

pub text_in-cols : (m : Compressed W64) → IsSound m
    → text_in Cols (plain_of_cols ring64 (λ x. class_of w64 (w64_number x)) m)
    ≡ text_of_coo (coo_of m.pattern.minor_dim m.pattern.major_dim (map transposed (lane_triplets m)))
text_in-cols m sound =
    ap (written_text (codes "integer") element_text m.pattern.minor_dim m.pattern.major_dim)
    (col_order-cols ring64 (λ x. class_of w64 (w64_number x)) m sound)
    ∙ written-via (λ x. class_of w64 (w64_number x)) element_text
    (λ x. signed_decimal (w64_number x)) element-text (codes "integer") m.pattern.minor_dim
    m.pattern.major_dim (map transposed (lane_triplets m))

-- ---- the result of a run

abbrev Value : Type 0
Value = Plain ring64

pub has_outcome : (texts : List (List ℕ)) (expr : Expr) (outcome : Result Value ExprError)
    (ms : List (Coo W64))
    → AllMean texts (map numbers_of ms)
    → value_of ring64 (map (λ m. plain_of_coo ring64 (λ x. class_of w64 (w64_number x)) m) ms) expr
    ≡ outcome
    → HasOutcome texts expr outcome
has_outcome texts expr outcome ms meant is = record {
  ms = map numbers_of ms;
  meant = meant;
  evaluated = ap (λ ps. value_of ring64 ps expr) (sym (plains-loaded ms)) ∙ is;
}

-- an expression has no errors but these
found-refuses : (o : Option Value) (e : ExprError) → found ring64 o ≡ Err e
    → (e ≡ errors.NoSuchInput) ⊎ (e ≡ errors.Shape)
found-refuses (Some a) e h = absurd cc
found-refuses None e h = inl cc

input-refuses : (inputs : List Value) (n : ℕ) (e : ExprError) → input_at ring64 inputs n ≡ Err e
    → (e ≡ errors.NoSuchInput) ⊎ (e ≡ errors.Shape)
input-refuses inputs zero e h = inl cc
input-refuses inputs (suc n) e h = found-refuses (slice_get inputs n) e h

shaped-refuses : (b : Bool) (c : Value) (e : ExprError)
    → (if b then Ok c else Err errors.Shape) ≡ Err e → (e ≡ errors.NoSuchInput) ⊎ (e ≡ errors.Shape)
shaped-refuses true c e h = absurd cc
shaped-refuses false c e h = inr cc

abbrev Refuses : ExprError → Type 0
Refuses e = (e ≡ errors.NoSuchInput) ⊎ (e ≡ errors.Shape)

both-refuses : (make : Value → Value → Result Value ExprError)
    → ((a b : Value) (f : ExprError) → make a b ≡ Err f → Refuses f)
    → (r s : Result Value ExprError) (e : ExprError)
    → ((f : ExprError) → r ≡ Err f → Refuses f) → ((f : ExprError) → s ≡ Err f → Refuses f)
    → both ring64 make r s ≡ Err e → Refuses e
both-refuses make shaped (Err f) s e left right h = left e h
both-refuses make shaped (Ok a) (Err f) e left right h = right e h
both-refuses make shaped (Ok a) (Ok b) e left right h = shaped a b e h

one-refuses : (make : Value → Value) (r : Result Value ExprError) (e : ExprError)
    → ((f : ExprError) → r ≡ Err f → Refuses f) → one ring64 make r ≡ Err e → Refuses e
one-refuses make (Err f) e inner h = inner e h
one-refuses make (Ok a) e inner h = absurd cc

value-refuses : (inputs : List Value) (expr : Expr) (e : ExprError)
    → value_of ring64 inputs expr ≡ Err e → Refuses e
value-refuses inputs (tree.Input n) e h = input-refuses inputs n e h
value-refuses inputs (tree.Add' p a q b) e h =
    both-refuses (sum_of ring64) (λ x y f. shaped-refuses (same_sizes ring64 x y)
    (plain_sum ring64 x y) f) (value_of ring64 inputs a) (value_of ring64 inputs b) e
    (value-refuses inputs a) (value-refuses inputs b) h
value-refuses inputs (tree.Sub' p a q b) e h = both-refuses (difference_of ring64)
    (λ x y f. shaped-refuses (same_sizes ring64 x y) (plain_difference ring64 x y) f)
    (value_of ring64 inputs a) (value_of ring64 inputs b) e (value-refuses inputs a)
    (value-refuses inputs b) h
value-refuses inputs (tree.Mul' p a q b) e h =
    both-refuses (product_of ring64) (λ x y f. shaped-refuses (nat_eq x.cols y.rows)
    (plain_product ring64 x y) f) (value_of ring64 inputs a) (value_of ring64 inputs b) e
    (value-refuses inputs a) (value-refuses inputs b) h
value-refuses inputs (tree.Transpose' p a) e h = one-refuses (plain_transpose ring64)
    (value_of ring64 inputs a) e (value-refuses inputs a) h
value-refuses inputs (tree.Neg' p a) e h = one-refuses (plain_negation ring64)
    (value_of ring64 inputs a) e (value-refuses inputs a) h

pub refuses-value : (order : Form) (texts : List (List ℕ)) (expr : Expr) (eff : Effect)
    (e : ExprError)
    → IsUntouched eff → (e ≡ errors.OutOfMemory) ⊎ HasOutcome texts expr (Err e)
    → RefusesRun order texts expr eff e
refuses-value order texts expr eff e same h = elim h [
  | inl memory ↦ subst (RefusesRun order texts expr eff) (sym memory) (same.1, inl same.0)
  | inr outcome ↦ elim (value-refuses (plains outcome.ms) expr e outcome.evaluated) [
    | inl none ↦ subst (RefusesRun order texts expr eff) (sym none)
        (subst (λ f. HasOutcome texts expr (Err f)) none outcome, same)
    | inr shape ↦ subst (RefusesRun order texts expr eff) (sym shape)
        (subst (λ f. HasOutcome texts expr (Err f)) shape outcome, same)
  ]
]

refuses-save : (order : Form) (texts : List (List ℕ)) (expr : Expr) (eff : Effect) (e : ExprError)
    → WritesSome order texts expr eff.accepted_before eff.accepted → RefusesSave eff e
    → RefusesRun order texts expr eff e
refuses-save order texts expr eff errors.BadWord some h = absurd h
refuses-save order texts expr eff errors.MissingOperand some h = absurd h
refuses-save order texts expr eff errors.LeftOver some h = absurd h
refuses-save order texts expr eff errors.NoSuchInput some h = absurd h
refuses-save order texts expr eff errors.Shape some h = absurd h
refuses-save order texts expr eff (errors.Input n k) some h = absurd h
refuses-save order texts expr eff (errors.Write kind) some h = (some, h.0, h.1)
refuses-save order texts expr eff errors.OutOfMemory some h = (h, inr some)

module _ (order : Form) (texts : List (List ℕ)) (expr : Expr) (value : Value)
    (is : HasOutcome texts expr (Ok value)) (text : List ℕ) (said : text_in order value ≡ text) where
  -- the text of the value is appended
  pub writes : (old new : Option (List ℕ)) → Appends old new text → Writes order texts expr old new
  writes old new appended = record {
    value = value;
    is_value = is;
    appended = subst (Appends old new) (sym said) appended;
  }

  -- or a prefix of it, if writing it fails
  pub refuses-write : (eff : Effect) (e : ExprError) → AppendsSome eff.accepted_before eff.accepted text
      → RefusesSave eff e → RefusesRun order texts expr eff e
  refuses-write eff e appended = refuses-save order texts expr eff e (record {
    value = value;
    is_value = is;
    appended = subst (AppendsSome eff.accepted_before eff.accepted) (sym said) appended;
  })

-- a consequence of two facts about one error
pub both_of_err : {T E : Type 0} (r : Result T E) (P Q S : E → Type 0) → ((e : E) → P e → Q e → S e)
    → IfErr r P → IfErr r Q → IfErr r S
both_of_err (Ok x) P Q S f p q = q
both_of_err (Err e) P Q S f p q = f e p q
