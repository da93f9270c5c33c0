-- Imports for proofs by hand of functions that return a mutable borrow: names of the toolchain and
-- of `std`.
pub use Prim.Native.Nat.{◌<◌}
pub use base.Fml.{GName, flft, ftrue}
pub use base.Logic.{emp, id⊢}
pub use contract.BorrowLft.{◌⊑◌}
pub use contract.Lifetimes.{Lfts, Shares}
pub use contract.Monad.{fact}
pub use contract.Running.{tables}
pub use denote.Array.{Array}
pub use denote.Builtin.{usize}
pub use denote.Exit.{yes, no}
pub use denote.Follow.{follows_if, follows, follows_then}
pub use denote.Laws.{Is, shows}
pub use denote.Param.{param, layouts}
pub use denote.Param.Laws.{param_laws}
pub use denote.Plain.{uint_vals, uint_Tells, uint_Makes}
pub use denote.RattleType.{RattleType}
pub use denote.Ref.{mut_vals, mut_Tells, MutBor, MutRef, mut_Lawful}
pub use denote.Signature.{plain, named_lft}
pub use denote.Slice.{MutSlice, mut_slice_Lawful}
pub use denote.Steps.{nothing, heard, peeks, owned}
pub use denote.Triple.Call.{calls_at}
pub use denote.Triple.Clauses.{Lasts, lasts}
pub use denote.Triple.Entry.{on_entry, alive}
pub use denote.Triple.Spec.{triple_of}
pub use denote.Triple.Table.{framed}
pub use denote.Triple.Walked.{Stays, walk_of, says, stay_dropped, Goes-dropped, Goes-spent_ref}
pub use denote.Triple.Walked.{ends_at}
pub use lib.Dec.{lit<}
pub use lib.ListN.{length}
pub use mathlib.Core.List.{List, [], ◌∷◌}
pub use mathlib.Core.Logic.{◌↔◌}
pub use mathlib.Core.Path.{◌≡◌, refl, sym, ap, ◌∙◌, subst}
pub use mir.MapTy.{inst_fn}
pub use mir.Syntax.{w64, named, a_type, Fn, Body}
pub use mir.Val.{Val}
pub use prog.Wp.{Env, Wp, after_seq, at_return}
pub use types.ByLocal.{alloc_all, pass_all, free_all, look_at, get, through, sets, lands_as, get_in}
pub use types.ByLocal.{get_tag, sets_last, env}
pub use types.Kit.{‵, raw, ◌⊛◌, some, later, ◌$◌, ◌∵◌, !, qed, done, move, drop, use1, split, join}
pub use types.Kit.{fjoin, pick, await, rewrite, suffices, frame, use2, Post, any_q, at_ret, prop}
pub use types.Kit.{Sq, use0}
pub use types.Match.{vrt, in_variant}
pub use types.Part.{whole, agg}
pub use types.Run.{enter, addr, stop, no_more, and_then, returns, of_opd, lit, fld, first, exec}
pub use types.Run.{switches_on}
pub use Rattle.std.proofs.VecSteps.Shapes.{after, head, arm_body}
pub use Rattle.std.proofs.mem.Facts.{says_two, says_three}
pub use Rattle.std.proofs.option.Option.TheLaws.{the_row_laws as option_laws}
pub use Rattle.std.proofs.raw_atomic.Walks.{proved}
pub use Rattle.std.specs.Option.{ghost_name_of}
pub use Rattle.std.specs.Prelude.{slice_set, slice_index_or, Option, Some, None, IsSome, IfSome}
pub use Rattle.std.specs.contracts.option.Option.{the_row as option_row}
