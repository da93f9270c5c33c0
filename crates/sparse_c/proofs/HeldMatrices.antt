-- Matrices with a modulus behind handles: what calls over them state follows from what tasks state.
-- - `no_fault`: a sound matrix has no fault
-- - `task_finds_fault`: the status of an error of a task is none of those that find no fault
-- - `held_parts`: a handle holds the matrix with the parts that were read
-- - `computed_from_one`, `computed_from_two`: a task over the matrices of handles
use Rattle.std.proofs.Common.{◌≡◌, ◌<◌, ℕ, ℤ, inl, inr, ap, sym, subst, ◌∙◌}
use Rattle.std.specs.Prelude.{◌-◌, Option, Some, slice_index}
use Rattle.std.proofs.Math.Nat.{le_of_lt, lt_irrefl, not-le_of_lt}
use Rattle.sparse_algebra.specs.Moduli.{mod_ring}
use Rattle.sparse_algebra.specs.Plain.{Plain}
use Rattle.sparse_compressed.specs.Compressed.{Compressed, IsSound}
use Rattle.sparse_compressed.specs.SortedFaults.{IsFirstSortedFault}
use Rattle.sparse_compressed.specs.declared.sorted.SortedFault.{SortedFault}
use Rattle.sparse_compressed.specs.declared.sorted.SortedFault.TheVariants.{Pattern, ValueCount}
use Rattle.sparse_pattern.specs.PatternFaults.{HasFault, Rule, OffsetCount, FirstLast, LaneEnd}
use Rattle.sparse_pattern.specs.PatternFaults.{Bound, Fall, Repeat}
use Rattle.sparse_pattern.specs.Raw.{Raw, IsValid}
use Rattle.sparse_c.specs.Combinations.{HaveShapesFor}
use Rattle.sparse_c.specs.HeldRings.{IsNoOperand, IsNoPair}
use Rattle.sparse_c.specs.Moduli.{IsFaultModulo, IsUnlisted}
use Rattle.sparse_c.specs.Tasks.{IsFaultOfTask}
use Rattle.sparse_c.specs.declared.arguments.Combination.{Combination}
use Rattle.sparse_c.specs.declared.handles.rings.tasks.Task.{Task}
use Rattle.sparse_c.specs.declared.handles.rings.tasks.Task.TheVariants.{Rows, Assemble}
use Rattle.sparse_c.specs.declared.handles.rings.tasks.Task.TheVariants.{Transpose, Scale, Combine}
use Rattle.c_arrays.proofs.ValidStatuses.{list_finds_fault, matrix_finds_fault, pair_finds_fault}
use Rattle.c_arrays.specs.Refused.{IsFaultOf, IsFaultOfPair}
use Rattle.c_arrays.specs.Statuses.{number_of, FindsNoFault}
use Rattle.c_arrays.specs.declared.refusal.Refusal.{Refusal}
use Rattle.c_handles.specs.Held.{Answers}
use Rattle.c_handles.specs.Rings.{arrays_held, modulus_held, residues_held, HoldsModulo}
use Rattle.c_handles.specs.declared.ring_matrix.RingMatrix.{RingMatrix}

-- ---- a sound matrix has no fault

no_rule : (d : Raw) → IsValid d → (rule : Rule) → HasFault d rule → ⊥
no_rule d valid OffsetCount wrong = wrong valid.count
no_rule d valid FirstLast (inl wrong) = wrong valid.first
no_rule d valid FirstLast (inr wrong) = wrong valid.last
no_rule d valid (LaneEnd i) wrong = elim wrong.1 [
  | inl falls ↦ not-le_of_lt falls (valid.lanes i wrong.0).ordered
  | inr out ↦ not-le_of_lt out (valid.lanes i wrong.0).inside
]
no_rule d valid (Bound i p) wrong = let at = wrong.0 in
    not-le_of_lt ((valid.lanes i at.lane).bounded p at.from at.to) wrong.1
no_rule d valid (Fall i p) wrong = let at = wrong.0 in
    not-le_of_lt wrong.2 (le_of_lt ((valid.lanes i at.lane).rising p wrong.1 at.to))
no_rule d valid (Repeat i p) wrong = let at = wrong.0 in
    let before = slice_index d.indices (p - 1) in
    lt_irrefl before
    (subst (λ n. before < n) wrong.2 ((valid.lanes i at.lane).rising p wrong.1 at.to))

no_sorted_fault : (m : Compressed ℤ) → IsSound m → (fault : SortedFault) → IsFirstSortedFault m fault → ⊥
no_sorted_fault m sound (Pattern e) first = no_rule m.pattern sound.valid first.rule first.first.here
no_sorted_fault m sound ValueCount first = first.1 sound.count

pub no_fault : (m : Compressed ℤ) (e : Refusal) → IsSound m → IsFaultOf m e → ⊥
no_fault m e sound fault = no_sorted_fault m sound fault.first.fault fault.first.first

-- ---- the error of a task

pub task_finds_fault : (task : Task) (e : Refusal) → IsFaultOfTask task e → FindsNoFault (number_of e) → ⊥
task_finds_fault (Rows a) e fault = matrix_finds_fault a e fault
task_finds_fault (Assemble t) e fault =
    list_finds_fault t.rows t.cols t.row_indices.now t.col_indices.now t.values.now e fault
task_finds_fault (Transpose a) e fault = matrix_finds_fault a e fault
task_finds_fault (Scale q) e fault = matrix_finds_fault q.a e fault
task_finds_fault (Combine p) e fault = pair_finds_fault p.a p.b e fault

-- ---- tasks over the matrices of handles

-- the parts of the matrix that a handle holds make up what it holds
pub held_parts : (handle : Option RingMatrix) (s x y : RingMatrix) (l : Compressed ℤ) → handle ≡ Some s
    → x ≡ s → y ≡ s → l ≡ y.matrix
    → handle ≡ Some (record { modulus = x.modulus; matrix = l })
held_parts handle s x y l is same also arrays =
    let rows : l ≡ s.matrix = arrays ∙ ap (λ (z : RingMatrix). z.matrix) also in
    let read : RingMatrix = record { modulus = x.modulus; matrix = l } in
    let parts : read ≡ s = (λ k. record { modulus = (same k).modulus; matrix = rows k }) in
    is ∙ ap Some (sym parts)

-- a call with sound operands states the same with another error in place of an unlisted modulus
widened : (Fault Other : Refusal → Type 0) {U Sound Done : Type 0} (m : ℕ) {status seen : ℤ}
    → seen ≡ status → ((e : Refusal) → Fault e → ⊥) → ((e : Refusal) → IsUnlisted m e → Other e)
    → Answers status (IsFaultModulo m Fault) U (Sound × Done) → Answers seen Other U Done
widened Fault Other m same none other (inl done) = inl (same ∙ done.0, done.1.1)
widened Fault Other m same none other (inr refused) = inr (
  refused.0,
  same ∙ refused.1,
  elim refused.2 [
    | inl memory ↦ inl memory
    | inr wrong ↦ elim wrong [
      | inl unlisted ↦ inr (other refused.0 unlisted)
      | inr fault ↦ absurd (none refused.0 fault)
    ]
  ],
  refused.3,
)

-- two sound matrices have no fault
no_pair : (l r : Compressed ℤ) → IsSound l → IsSound r → (e : Refusal) → IsFaultOfPair l r e → ⊥
no_pair l r sound valid e (inl fault) = no_fault l e sound fault
no_pair l r sound valid e (inr fault) = no_fault r e valid fault.1

-- two facts that hold in any case
together : {U Fact Other Done : Type 0} (Fault : Refusal → Type 0) {seen : ℤ} → Fact → Other
    → Answers seen Fault U Done → Answers seen Fault U (Fact × Other × Done)
together Fault fact other (inl done) = inl (done.0, (fact, other, done.1))
together Fault fact other (inr refused) = inr refused

module _ {U : Type 0} (out : Option RingMatrix) {status seen : ℤ} (told : seen ≡ status) where
  pub computed_from_one : (op : (m : ℕ) → Plain (mod_ring m) → Plain (mod_ring m))
      → (handle : Option RingMatrix) (s : RingMatrix) → handle ≡ Some s → IsSound s.matrix
      → Answers status (IsFaultModulo s.modulus (IsFaultOf s.matrix)) U (IsSound s.matrix
      × HoldsModulo s.modulus out (op s.modulus (residues_held s.modulus (Some s))))
      → Answers seen (IsNoOperand handle) U (HoldsModulo (modulus_held handle) out
      (op (modulus_held handle) (residues_held (modulus_held handle) handle)))
  computed_from_one op handle s is sound answer = subst
      (λ (h : Option RingMatrix). Answers seen (IsNoOperand h) U (HoldsModulo (modulus_held h) out
      (op (modulus_held h) (residues_held (modulus_held h) h)))) (sym is)
      (widened (IsFaultOf s.matrix) (IsNoOperand (Some s)) s.modulus told
      (λ e. no_fault s.matrix e sound) (λ e unlisted. inr unlisted) answer)

  pub computed_from_two : (how : Combination)
      (op : (m : ℕ) → Plain (mod_ring m) → Plain (mod_ring m) → Plain (mod_ring m))
      → (a b : Option RingMatrix) (s t : RingMatrix) → a ≡ Some s → b ≡ Some t
      → t.modulus ≡ s.modulus → HaveShapesFor how s.matrix t.matrix
      → IsSound s.matrix → IsSound t.matrix
      → Answers status (IsFaultModulo s.modulus (IsFaultOfPair s.matrix t.matrix)) U
      ((IsSound s.matrix × IsSound t.matrix) × HoldsModulo s.modulus out
      (op s.modulus (residues_held s.modulus (Some s)) (residues_held s.modulus (Some t))))
      → Answers seen (IsNoPair how a b) U ((modulus_held b ≡ modulus_held a)
      × HaveShapesFor how (arrays_held a) (arrays_held b)
      × HoldsModulo (modulus_held a) out (op (modulus_held a) (residues_held (modulus_held a) a)
      (residues_held (modulus_held a) b)))
  computed_from_two how op a b s t is also same fit sound valid answer = subst
      (λ (h : Option RingMatrix × Option RingMatrix). Answers seen (IsNoPair how h.0 h.1) U
      ((modulus_held h.1 ≡ modulus_held h.0)
      × HaveShapesFor how (arrays_held h.0) (arrays_held h.1) × HoldsModulo (modulus_held h.0) out
      (op (modulus_held h.0) (residues_held (modulus_held h.0) h.0)
      (residues_held (modulus_held h.0) h.1)))) (λ k. (sym is k, sym also k))
      (together (IsNoPair how (Some s) (Some t)) same fit
      (widened (IsFaultOfPair s.matrix t.matrix) (IsNoPair how (Some s) (Some t)) s.modulus told
      (no_pair s.matrix t.matrix sound valid) (λ e unlisted. inr (same, inr unlisted)) answer))
