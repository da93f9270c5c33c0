-- Builds a value of size 0 whose list of readings is that of the old value and one more.
use Rattle.std.proofs.Common.{List, [], ◌∷◌, refl}
use Rattle.std.proofs.raw_atomic.Walks.{proved}
use mir.Syntax.{named}
use mir.Val.{Val, vstruct, vnil}
use types.Kit.{‵, raw, ◌⊛◌, ◌$◌, ◌∵◌, !, qed, done, drop, split, move, suffices}
use types.Run.{enter, no_more, returns}
use types.Part.{agg}
use types.ByLocal.{alloc_all, pass_all, free_all, look_at, sets}
use denote.Builtin.{u8}
use denote.Exit.{yes}
use denote.RattleType.{RattleType, owns}
use denote.Ref.{shr_vals, shr_Tells}
use denote.Shadow.{pure_i}
use denote.Signature.{plain, types_at}
use denote.Slice.{shr_slice_vals, shr_slice_Tells}
use denote.Triple.Entry.{alive}
use denote.Triple.Walked.{says, Stays, stay_none_ref, Goes-none_ref, ends_at}
use denote.Triple.Walked.{stay_none_slice, Goes-none_slice}
use Rattle.std.specs.contracts.alloc.Global as global
use Rattle.std.specs.contracts.impls.GlobalAllocator.TheImpl.{ghosts}
use Rattle.std.specs.contracts.io.Error as error
use Rattle.std.specs.contracts.result.Result as result
use Rattle.std.specs.contracts.string.String as string
use Rattle.file_readings.specs.Readings.{reading_of}
use Rattle.file_readings.specs.contracts.record.Record as row
use Rattle.file_readings.specs.contracts.record.Record.with as f
use Rattle.file_readings.proofs.record.Record.with.Statement.{statement}
use Rattle.file_readings.proofs.record.Record.with.Code as code

-- what reading a file gave
abbrev read_row : RattleType
read_row = result.the_row (string.the_row global.the_row ghosts) error.the_row

abbrev stayed : Stays f.ended.signature.params f.ended.kept
stayed = (
  stay_none_ref (0 ∷ []) tt (plain (λ _. row.the_row)) yes,
  (
    stay_none_slice (1 ∷ []) tt (plain (λ _. u8)) yes,
    (stay_none_ref (2 ∷ []) tt (plain (λ _. read_row)) yes, tt),
  ),
)

pub with_spec : {M : Type 1} → statement M
with_spec 𝓤 𝓛 𝓜 𝓡 wired =
    let c = f.clauses 𝓛 𝓜.mem 𝓡.returns in
    proved 𝓛 f.ended stayed c 𝓜 𝓡 (
      Goes-none_ref 𝓛 3 (0 ∷ []) tt (plain (λ _. row.the_row)) yes,
      (
        Goes-none_slice 𝓛 3 (1 ∷ []) tt (plain (λ _. u8)) yes,
        (Goes-none_ref 𝓛 3 (2 ∷ []) tt (plain (λ _. read_row)) yes, tt),
      ),
    ) f.Key.name code.function (code.unfolded 𝓤 𝓛.H 𝓜 𝓡 wired)
    (λ κs. (shr_vals, (shr_slice_vals, (shr_vals, tt))))
    (λ κs. (
      shr_Tells (named 0) κs.0 row.the_row,
      (
        shr_slice_Tells (named 1) κs.1.0 u8,
        (shr_Tells (named 2) κs.1.1.0 read_row, tt),
      ),
    )) (λ κs qs bounds a _ are.
    let more : row.the_row.Denot = record {
      readings = reading_of a.1.0.now a.1.1.0.now ∷ a.0.now.readings;
    } in
    let vss : List Val × (List Val × (List Val × Unit {0})) =
    (shr_vals a.0, (shr_slice_vals a.1.0, (shr_vals a.1.1.0, tt))) in
    qed 𝓛 ((raw (alive 𝓛 f.signature κs qs) ⊛ ‵ (owns (types_at f.signature.params κs) a vss)) ∷ raw
    ((c κs a).requires tt) ∷ []) ∵ move ! (1 ∷ []) $ drop ! $ split ! $
    enter ! _ _ _ _ _ $ alloc_all ! (λ l. pass_all ! refl (
      (tt, tt),
      (
        (tt, (tt, (record { fits = are.1.0.0.1.0 }, tt))),
        ((tt, tt), tt),
      ),
    ) $
    sets ! (agg ! (no_more !)) refl (tt, tt) $ returns ! (look_at ! 0 refl) $ free_all ! refl $
    suffices ! _ (ends_at 𝓛 f.ended stayed c ((κs, qs, bounds, a, vss), tt) (vstruct vnil) more
    (tt, (tt, (tt, tt))) (tt, (tt, (tt, tt)))) $ says ! refl $
    pure_i ! (row.the_row.own_val more (vstruct vnil ∷ [])) ((λ vss. (tt, tt)), tt)
    ((tt, (refl, tt)), tt) $
    move ! (1 ∷ 2 ∷ 0 ∷ []) $ done !))
