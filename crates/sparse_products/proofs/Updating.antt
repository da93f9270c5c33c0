-- Updates of a given matrix by a product, as plain matrices.
use denote.Ref.{Bor}
use Rattle.std.proofs.Common.{◌≡◌, ℕ, ◌+◌, ◌≤◌, ◌↔◌, ◌⊎◌, inr, Bool, true, false, List, length}
use Rattle.std.proofs.Common.{ap, sym, subst, ◌∙◌, refl, arith}
use Rattle.std.specs.Prelude.{⊤, Result, Ok, Err, IsOk, IfErr}
use Rattle.sparse_algebra.specs.Algebra.{CommRing}
use Rattle.sparse_algebra.specs.Plain.{Plain, plain_product}
use Rattle.sparse_algebra.specs.declared.operand.Op.{Op}
use Rattle.sparse_algebra.specs.declared.operand.Op.TheVariants.{NoOp, Transpose}
use Rattle.sparse_algebra.specs.Operands.{MatchOp}
use Rattle.sparse_algebra.specs.Prealloc.{plain_update, plain_transpose_if, IsCovered}
use Rattle.sparse_pattern.specs.Raw.{Raw, IsValid, nnz_of}
use Rattle.sparse_compressed.specs.Compressed.{Compressed, compressed_of, IsSound}
use Rattle.sparse_compressed.specs.PlainOfLanes.{plain_of_rows}
use Rattle.sparse_compressed.specs.Writing.{with_values}
use Rattle.sparse_compressed.specs.InnerUpdates.{AreUpdated}
use Rattle.sparse_compressed.proofs.ArraysDeterminePlain.{plain_of_rows-has_lanes}
use Rattle.sparse_sums.proofs.Updating.{update_is, written_back}
use Rattle.sparse_products.specs.declared.serial.multiplicands.Matrices.{Matrices}
use Rattle.sparse_products.specs.declared.serial.multiplicands.Operands.{Operands}
use Rattle.sparse_products.specs.InnerOperands.{HasProduct, AreMatricesOf, matrix_of, product_of}
use Rattle.sparse_products.specs.InnerUpdates.{CanUpdate, ContainsProduct, steps_of}
use Rattle.sparse_products.specs.ScalarProducts.{IfNotTransposed, triples_of}
use Rattle.sparse_products.proofs.ProductPlaces.{product, joined_places, product_is_proper}

-- if each error is of one kind, and there is none where P holds, then an error is of that kind and
-- P does not hold
pub refused_is : {X E : Type 0} (r : Result X E) (kind memory : E) {P : Type 0}
    → IfErr r (λ e. e ≡ kind)
    → (P → IsOk r) → IfErr r (λ e. (e ≡ memory) ⊎ ((e ≡ kind) × (P → ⊥)))
refused_is (Ok x) kind memory is covered = tt
refused_is (Err e) kind memory is covered = inr (is, λ p. let no = covered p in cc)

-- P of both matrices gives Q of both, where P implies Q
pub if_also : {X Y : Type 0} (a : Op X) (b : Op Y) {P Q : X → Y → Type 0}
    → ((m : X) (n : Y) → P m n → Q m n) → IfNotTransposed a b P → IfNotTransposed a b Q
if_also (NoOp m) (NoOp n) also p = also m n p
if_also (NoOp m) (Transpose n) also p = tt
if_also (Transpose m) b also p = tt

-- P holds of both matrices, where it holds of all
pub if_of_all : {X Y : Type 0} (a : Op X) (b : Op Y) {P : X → Y → Type 0}
    → ((m : X) (n : Y) → P m n) → IfNotTransposed a b P
if_of_all (NoOp m) (NoOp n) all = all m n
if_of_all (NoOp m) (Transpose n) all = tt
if_of_all (Transpose m) b all = tt

-- P of the first matrix and Q of the second give both of both
pub if_both : {X Y : Type 0} (a : Op X) (b : Op Y) (P : X → Type 0) (Q : Y → Type 0)
    → MatchOp a P (λ _. ⊤) → MatchOp b Q (λ _. ⊤) → IfNotTransposed a b (λ m n. P m × Q n)
if_both (NoOp m) (NoOp n) P Q p q = (p, q)
if_both (NoOp m) (Transpose n) P Q p q = tt
if_both (Transpose m) b P Q p q = tt

pub product_same : (R : CommRing) {p q r s : Plain R} → p ≡ q → r ≡ s
    → plain_product R p r ≡ plain_product R q s
product_same R {p} {q} {r} {s} e e' = ap (λ x. plain_product R x r) e ∙ ap (plain_product R q) e'

-- an update of the matrix of the pattern d and the values vs
module _ (R : CommRing) {T : Type 0} (f : T → R.Carrier) {x : Matrices T} {d : Raw} {vs : List T}
    (sizes : CanUpdate x d vs) (sa : IsSound x.a.now) (sb : IsSound x.b.now) (valid : IsValid d)
  where
    abbrev P : Plain R
    P = product R f sa sb sizes.inner

    sound : IsSound (compressed_of d vs)
    sound = record { valid = valid; count = sizes.count }

    pub covered_is : ContainsProduct d x.a.now.pattern x.b.now.pattern
        ↔ IsCovered P (plain_of_rows R f (compressed_of d vs))
    covered_is =
        let here = (plain_of_rows-has_lanes R f (compressed_of d vs) sound).places in
        let joined = joined_places R f sa sb sizes.inner in (
          λ h i j hit. let s = (joined i j).1 hit in (here i j).0 (h i j s.0 s.1 s.2),
          λ h i j k left right. (here i j).1 (h i j ((joined i j).0 (k, left, right))),
        )

    pub updated_is : (z : T) (beta alpha : R.Carrier) (ws : List T) → length ws ≡ length vs
        → ContainsProduct d x.a.now.pattern x.b.now.pattern
        → AreUpdated R f z d beta alpha P.value vs ws
        → plain_of_rows R f (compressed_of d ws) ≡ plain_update R beta
        (plain_of_rows R f (compressed_of d vs)) alpha P
    updated_is z beta alpha ws long places values = update_is R f z P beta alpha ws sound long
        (product_is_proper R f sa sb sizes.inner) (covered_is.0 places) values

module _ (R : CommRing) where
  covered_through : (t : Bool) (p c : Plain R)
      → IsCovered (plain_transpose_if R t p) c ↔ IsCovered p (plain_transpose_if R t c)
  covered_through true p c = (λ h i j. h j i, λ h i j. h j i)
  covered_through false p c = (λ h. h, λ h. h)

  update_through : (t : Bool) (beta alpha : R.Carrier) (c p : Plain R)
      → plain_transpose_if R t (plain_update R beta c alpha (plain_transpose_if R t p))
      ≡ plain_update R beta (plain_transpose_if R t c) alpha p
  update_through true beta alpha c p = refl
  update_through false beta alpha c p = refl

-- updating the values vs of the pattern d by the product of the matrices x updates the matrix m by
-- the product p; lanes are rows, or columns if t is true
pub record IsUpdateOf (R : CommRing) {T : Type 0} (f : T → R.Carrier) (t : Bool) (m : Compressed T)
    (p : Plain R) (x : Matrices T) (d : Raw) (vs : List T) : Type 0 where
  pub sizes : CanUpdate x d vs
  pub width : x.b.now.pattern.minor_dim ≡ d.minor_dim
  pub covered : IsCovered (product_of R f x) (plain_of_rows R f (compressed_of d vs))
      ↔ IsCovered p (plain_transpose_if R t (plain_of_rows R f m))
  pub updated : (beta alpha : R.Carrier) (ws : List T) → length ws ≡ length vs
      → plain_of_rows R f (compressed_of d ws) ≡ plain_update R beta
      (plain_of_rows R f (compressed_of d vs)) alpha (product_of R f x)
      → plain_transpose_if R t (plain_of_rows R f (with_values m ws)) ≡ plain_update R beta
      (plain_transpose_if R t (plain_of_rows R f m)) alpha p

pub update_of : {R : CommRing} {T : Type 0} {f : T → R.Carrier} {t : Bool} {o : Operands T}
    (x : Matrices T) {m : Compressed T} {p : Plain R} {d : Raw} {vs : List T} → AreMatricesOf o x
    → HasProduct R f t p o → d ≡ m.pattern → vs ≡ m.values → IsSound m
    → (plain_transpose_if R t p).rows ≡ m.pattern.major_dim
    → (plain_transpose_if R t p).cols ≡ m.pattern.minor_dim → IsUpdateOf R f t m p x d vs
update_of {R} {f = f} {t} x {m} {p} {d} {vs} same are d_is vs_is sound lanes width =
    let q = product_of R f x in
    let is : q ≡ plain_transpose_if R t p = rw (same.0, same.1) are.product in
    let old = plain_of_rows R f m in
    let old_is : plain_of_rows R f (compressed_of d vs) ≡ old =
    ap (λ d. plain_of_rows R f (compressed_of d vs)) d_is
    ∙ ap (λ vs. plain_of_rows R f (compressed_of m.pattern vs)) vs_is in
    let C : Plain R → Plain R → Type 0 =
    λ q c. IsCovered q c ↔ IsCovered p (plain_transpose_if R t old) in
    record {
      sizes = record {
        inner = rw (same.0, same.1) are.inner;
        lanes = ap (λ (q : Plain R). q.rows) is ∙ lanes ∙ sym (ap (λ (d : Raw). d.major_dim) d_is);
        count = ap length vs_is ∙ sound.count ∙ sym (ap (λ (d : Raw). length d.indices) d_is);
      };
      width = ap (λ (q : Plain R). q.cols) is ∙ width ∙ sym (ap (λ (d : Raw). d.minor_dim) d_is);
      covered = subst (λ q. C q (plain_of_rows R f (compressed_of d vs))) (sym is)
          (subst (C (plain_transpose_if R t p)) (sym old_is) (covered_through R t p old));
      updated = λ beta alpha ws long new. ap (plain_transpose_if R t)
          (ap (plain_of_rows R f) (written_back m ws (long ∙ ap length vs_is))
          ∙ ap (λ d. plain_of_rows R f (compressed_of d ws)) (sym d_is) ∙ new
          ∙ ap (λ c. plain_update R beta c alpha q) old_is ∙ ap (plain_update R beta old alpha) is)
          ∙ update_through R t beta alpha old p;
    }

-- the bounds of the steps of an update, for the matrices x of two operands
pub no_more_as : {T : Type 0} (a b : Op (Bor (Compressed T))) (o : Operands T) (x : Matrices T)
    (old : ℕ) {c d : Raw} {new : ℕ} → AreMatricesOf o x → d ≡ c
    → IfNotTransposed a b (λ m n. (matrix_of o.a ≡ m.now) × (matrix_of o.b ≡ n.now))
    → new ≤ old + steps_of x d
    → IfNotTransposed a b (λ m n. new ≤ old + nnz_of m.now.pattern + nnz_of c
    + triples_of m.now.pattern n.now.pattern)
no_more_as a b o x old same d_is borrowed no_more =
    let steps = rw (same.0, same.1, d_is) at no_more in
    if_also a b (λ m n are. rw (← are.0, ← are.1) (omega (arith, steps))) borrowed
