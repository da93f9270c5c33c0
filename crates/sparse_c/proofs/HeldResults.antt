-- Results that are written into arrays, of calls over the matrix with a modulus of a handle.
-- - `read_held`, `multiplied_held`: the matrix is written, or its product with a dense matrix
use Rattle.std.proofs.Common.{◌≡◌, ◌⊎◌, ◌*◌, ℕ, ℤ, List, inl, inr, sym, subst}
use Rattle.std.specs.Prelude.{Option, Some}
use Rattle.sparse_algebra.specs.Moduli.{mod_ring}
use Rattle.sparse_algebra.specs.Plain.{plain_product}
use Rattle.sparse_coo_dense.specs.DensePlain.{plain_full}
use Rattle.sparse_compressed.specs.Compressed.{IsSound}
use Rattle.sparse_c.proofs.HeldMatrices.{no_fault}
use Rattle.sparse_c.specs.Dense.{IsDenseTooLong, WritesValues}
use Rattle.sparse_c.specs.HeldRings.{IsNoOperand, WritesHeldProduct, WritesHeldRows}
use Rattle.sparse_c.specs.Moduli.{IsFaultModulo}
use Rattle.c_arrays.specs.Arrays.{plain_by_rows, plain_by_values, HoldsDense, OutputArrays}
use Rattle.c_arrays.specs.Refused.{HasWrongLength, IsFaultOf, IsFaultOfSystem}
use Rattle.c_arrays.specs.Refused.{IsRefusedFor, IsSystemSound}
use Rattle.c_arrays.specs.Written.{WritesRows}
use Rattle.c_arrays.specs.declared.refusal.Refusal.{Refusal}
use Rattle.c_handles.specs.Rings.{residues_held}
use Rattle.c_handles.specs.declared.ring_matrix.RingMatrix.{RingMatrix}

-- an error of a call over a sound matrix, as an error of a call over the handle
refused_held : {Fault Other : Refusal → Type 0} {Small : Type 0} (m : ℕ) (status : ℤ)
    → ((e : Refusal) → IsFaultModulo m Fault e → Other e)
    → IsRefusedFor (IsFaultModulo m Fault) Small status → IsRefusedFor Other Small status
refused_held m status to refused = (
  refused.0,
  refused.1,
  elim refused.2 [
    | inl fault ↦ inl (elim fault [
      | inl memory ↦ inl memory
      | inr wrong ↦ inr (to refused.0 wrong)
    ])
    | inr small ↦ inr small
  ],
)

-- ---- the matrix itself

no_operand : (s : RingMatrix) → IsSound s.matrix → (e : Refusal)
    → IsFaultModulo s.modulus (IsFaultOf s.matrix) e → IsNoOperand (Some s) e
no_operand s sound e (inl unlisted) = inr unlisted
no_operand s sound e (inr fault) = absurd (no_fault s.matrix e sound fault)

pub read_held : (handle : Option RingMatrix) (s : RingMatrix) (before after : OutputArrays) (status : ℤ)
    → handle ≡ Some s → IsSound s.matrix → WritesRows (IsSound s.matrix)
    (IsFaultModulo s.modulus (IsFaultOf s.matrix)) (residues_held s.modulus (Some s)) before after
    status → WritesHeldRows handle before after status
read_held handle s before after status is sound answer = subst
    (λ (h : Option RingMatrix). WritesHeldRows h before after status) (sym is) (record {
      written = answer.written;
      rest = answer.rest;
      sound = answer.sound;
      untouched = answer.untouched;
      needed = answer.needed;
      refused = λ h. refused_held s.modulus status (no_operand s sound) (answer.refused h);
    })

-- ---- its product with a dense matrix

no_product : (s : RingMatrix) → IsSound s.matrix → (n : ℕ) (b : List ℤ) (e : Refusal)
    → IsFaultModulo s.modulus (IsFaultOfSystem s.matrix s.matrix.pattern.minor_dim n b) e
    → IsNoOperand (Some s) e ⊎ HasWrongLength s.matrix.pattern.minor_dim n b e
no_product s sound n b e (inl unlisted) = inl (inr unlisted)
no_product s sound n b e (inr (inl fault)) = absurd (no_fault s.matrix e sound fault)
no_product s sound n b e (inr (inr wrong)) = inr wrong.1

-- with any number that is that of the columns
abbrev pub at_columns : (s : RingMatrix) (inner n : ℕ) (b before after : List ℤ) (status : ℤ) → Type 0
at_columns s inner n b before after status = WritesValues (IsSystemSound s.matrix inner n b)
    (IsFaultModulo s.modulus (IsFaultOfSystem s.matrix inner n b))
    (HoldsDense (plain_full (mod_ring s.modulus) (plain_product (mod_ring s.modulus)
    (plain_by_rows (mod_ring s.modulus) s.matrix)
    (plain_by_values (mod_ring s.modulus) inner n b))))
    (IsDenseTooLong s.matrix.pattern.major_dim n) (s.matrix.pattern.major_dim * n) before after
    status

pub multiplied_held : (handle : Option RingMatrix) (s : RingMatrix) (inner n : ℕ)
    (b before after : List ℤ) (status : ℤ) → handle ≡ Some s → IsSound s.matrix
    → inner ≡ s.matrix.pattern.minor_dim → at_columns s inner n b before after status
    → WritesHeldProduct handle n b before after status
multiplied_held handle s inner n b before after status is sound cols made =
    let answer : at_columns s s.matrix.pattern.minor_dim n b before after status =
    subst (λ (k : ℕ). at_columns s k n b before after status) cols made in
    subst (λ (h : Option RingMatrix). WritesHeldProduct h n b before after status) (sym is) (record {
      written = answer.written;
      rest = answer.rest;
      sound = λ told. (answer.sound told).1;
      untouched = answer.untouched;
      refused = λ h. refused_held s.modulus status (no_product s sound n b) (answer.refused h);
    })
