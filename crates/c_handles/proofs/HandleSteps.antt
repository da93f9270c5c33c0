-- The machine values of handles and of `Block`: structs of one pointer. Assumes `Logic`.
-- - `pointer_good`: the machine value of a pointer has the type of pointers
-- - `word p`: the machine value of a struct whose only field is the pointer p
-- - `word_good`: `word p` has the layout of a handle, which is that of a block
-- - `pointer_out`, `pointer_in`: to own a handle or a block by value is to own what it owns at its pointer
use Rattle.std.proofs.Common.{◌≡◌, List, [], ◌∷◌, ◌++◌, refl, subst}
use lib.Dec.{lit<}
use seplogic.Ra.Ura.{Ura}
use base.Fml.{Fml, fsep}
use mir.Syntax.{ty_ptr}
use mir.Val.{Val, vstruct, vcons, vnil, of_list}
use types.Logic.{Logic}
use types.Kit.{Item, Goal, Seq, Step, step, ‵, ◌$◌, drop, fsplit, fjoin, fpick, fpack, feq_i, feq_l}
use denote.RattleType.{Valss}
use denote.Builtin.{RawPtr}
use denote.RawPtr.{Ptr, block_ptr, null_ptr, ptr_val}
use denote.Steps.{nothing}
use denote.Param.{layout}
use denote.Struct.Struct.{Shape, Struct, within}
use denote.Struct.Owning.{shape}
use Rattle.core.proofs.cell.Inside.{Good}
use Rattle.c_handles.specs.contracts.handle.MatrixHandle as handle

abbrev pub word : Ptr → Val
word p = vstruct (vcons (ptr_val p) vnil)

pub pointer_good : (p : Ptr) → Good ty_ptr (ptr_val p)
pointer_good (block_ptr b o) = (tt, tt)
pointer_good null_ptr = (tt, record { fits = lit< tt })

pub word_good : (p : Ptr) → Good (layout handle.the_row) (word p)
word_good (block_ptr b o) = (tt, (tt, tt))
word_good null_ptr = (tt, (record { fits = lit< tt }, tt))

-- the shape of a struct of one pointer; ownership by such a struct does not depend on the struct's name
abbrev pointer_shape : Shape
pointer_shape = shape handle.the_type

-- vs is the machine value of a struct with the pointer p, and the struct owns F
abbrev pub owned_by : Ptr → Fml → List Val → Fml
owned_by p F vs = fsep ((Struct pointer_shape).own_val (p, tt) vs) F

module _ {M : Type 1} {𝓤 : Ura M} {𝓛 : Logic 𝓤} {K : Type 0} {Γ : List (Item 𝓤)} {G : Goal 𝓤 𝓛.H}
  where
    pub pointer_out : K → (p : Ptr) (F : Fml) (vs : List Val)
        → (vs ≡ word p ∷ [] → Seq K 𝓛 (‵ F ∷ Γ) G) → Seq K 𝓛 (‵ (owned_by p F vs) ∷ Γ) G
    pointer_out t p F vs k =
        fsplit t $ fpick t (λ vss. fsplit t $ feq_l t (λ ev. fsplit t $ feq_l t (λ ep. drop t $
        k (subst (λ (ps : List Val). vs ≡ vstruct (of_list (ps ++ [])) ∷ []) ep ev))))

    pub pointer_in : K → (p : Ptr) (F : Fml)
        → Step K 𝓛 (‵ (owned_by p F (word p ∷ [])) ∷ Γ) G (‵ F ∷ Γ) G
    pointer_in t p F = step (λ s. let v : Val = word p in
        nothing t $ feq_i t (List Val) (ptr_val p ∷ []) (ptr_val p ∷ []) refl $ fjoin t $
        feq_i t (List Val) (v ∷ []) (v ∷ []) refl $ fjoin t $
        fpack t (Valss (RawPtr ∷ [])) (within pointer_shape (p, tt) (v ∷ [])) (ptr_val p ∷ [], tt) $
        fjoin t $ s)
