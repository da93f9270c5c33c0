-- The type `Box<T, Global>` as an argument of a generic call of std. Assumes `Logic`. A row is the type's entry in the
-- prover's semantics: its layout, its values and what they own.
-- - `passed_as`: the row of a type as a type argument
-- - `heap_row`, `heap_laws`: the row of the allocator `Global` as a type argument, and the laws of this row
-- - `no_drop`, `drop_goes`: the drop of the allocator, which does nothing
-- - `Boxed`, `boxed`: the row of the box, and the row together with its laws
-- - `static`: each lifetime is within that of the allocator, which has no references
use mathlib.Core.List.{[], ◌∷◌, not-mem-nil}
use mathlib.Core.Path.{refl}
use mir.Raw.{raw}
use mir.Syntax.{Dict, impl, tcons, tnil, dnil}
use base.Fml.{Lft, ftrue}
use seplogic.Ra.Ura.{Ura}
use prog.Model.{Model}
use prog.Wired.{Wired}
use types.Logic.{Logic}
use contract.BorrowLft.{◌⊑◌}
use contract.Running.{Running}
use denote.Param.Glue.{Met}
use denote.Param.NoDrop.{glues}
use Rattle.c_handles.proofs.Destruct++none.drop.Code.{code as drop_code}
use denote.RattleType.{RattleType}
use denote.Exit.{no}
use denote.Param.{layout, arg}
use denote.Param.Laws.{Laws, arg_laws}
use Rattle.core.proofs.alloc.Calls.{Al}
use Rattle.std_alloc.specs.contracts.boxed.Box as Box
use Rattle.std_alloc.proofs.boxed.Box.TheLaws.{the_row_laws as box_laws}
use Rattle.std_heap.proofs.Global.TheLaws.{the_row_laws as global_laws}
use Rattle.std_heap.specs.contracts.Global.{the_row as global_row}
use Rattle.std_heap.specs.contracts.GlobalAllocator.TheImpl.{ghosts, dict}

abbrev pub passed_as : RattleType → RattleType
passed_as R = arg (raw (layout R)) no R

abbrev pub heap_row : RattleType
heap_row = passed_as global_row

abbrev pub heap_laws : Laws heap_row
heap_laws = arg_laws (raw (layout global_row)) no global_row global_laws refl

abbrev pub no_drop : Dict
no_drop = impl ("c_handles::Destruct++none::drop" ∷ []) (tcons (layout heap_row) tnil) dnil

pub drop_goes : {M : Type 1} (𝓤 : Ura M) (𝓛 : Logic 𝓤) (𝓜 : Model 𝓤 𝓛.H)
    (𝓡 : Running 𝓤 𝓛.H 𝓜) → Wired 𝓡.env drop_code → Met 𝓛 𝓜 𝓡 𝓡.env heap_row no_drop
unfolding Rattle.c_handles.proofs.Destruct++none.drop.Code.code
drop_goes {M} 𝓤 𝓛 𝓜 𝓡 wired =
    glues "c_handles::Destruct++none::drop" 𝓡.env wired heap_row heap_laws M 𝓤 𝓛 𝓜 𝓡

pub static : (κ : Lft) → κ ⊑ heap_row.lives
static κ a m = absurd (not-mem-nil m)

module _ (R : RattleType) where
  abbrev pub Boxed : RattleType
  Boxed = Box.the_row R global_row ghosts

  abbrev pub boxed : Laws R → Al
  boxed L = record {
    row = Boxed;
    laws = box_laws R global_row ghosts L global_laws;
    g = record { dealloc_token = λ a σ p. ftrue };
    d = dict;
    drops = no_drop;
  }
