-- Proof by hand, once for every type of lane, of a function with the body
--     match first(self, index) { Some(core) => Some(second(core, index)), None => None }
-- where `first` borrows the core of a matrix mutably if it has a lane `index`, and `second` that lane.
use Rattle.sparse_rows_cols.proofs.MutBorrowImports.{◌≡◌, refl, sym, subst, List, [], ◌∷◌, ◌↔◌, lit<, w64}
use Rattle.sparse_rows_cols.proofs.MutBorrowImports.{named, Fn, Body, Val, emp, GName, Env, Wp, after_seq}
use Rattle.sparse_rows_cols.proofs.MutBorrowImports.{at_return, Post, any_q, at_ret, prop, Sq, ‵, raw, ◌⊛◌}
use Rattle.sparse_rows_cols.proofs.MutBorrowImports.{some, later, ◌$◌, ◌∵◌, !, qed, move, drop, use0, use1}
use Rattle.sparse_rows_cols.proofs.MutBorrowImports.{use2, split, join, fjoin, pick, await, rewrite, vrt}
use Rattle.sparse_rows_cols.proofs.MutBorrowImports.{in_variant, whole, agg, enter, addr, of_opd, lit, stop}
use Rattle.sparse_rows_cols.proofs.MutBorrowImports.{fld, first, exec, switches_on, no_more, and_then}
use Rattle.sparse_rows_cols.proofs.MutBorrowImports.{returns, alloc_all, pass_all, free_all, look_at, get}
use Rattle.sparse_rows_cols.proofs.MutBorrowImports.{get_in, get_tag, through, sets, sets_last, lands_as}
use Rattle.sparse_rows_cols.proofs.MutBorrowImports.{env, fact, tables, RattleType, Array, usize, Is, shows}
use Rattle.sparse_rows_cols.proofs.MutBorrowImports.{uint_vals, uint_Makes, MutBor, MutRef, mut_vals}
use Rattle.sparse_rows_cols.proofs.MutBorrowImports.{follows, follows_if, nothing, heard, owned, peeks}
use Rattle.sparse_rows_cols.proofs.MutBorrowImports.{framed, after, head, arm_body, Option, Some, None}
use Rattle.sparse_rows_cols.proofs.MutBorrowImports.{IsSome, IfSome, ghost_name_of, option_row}
use mathlib.Core.Option as maybe
use seplogic.Ra.Ura.{Ura}
use base.Fml.{Fml, Lft, fsep, ftrue}
use base.Logic.{SProp, ent, sep, id⊢}
use contract.Running.{Running, MachineTables}
use Prim.Native.Nat.{ℕ}
use denote.Triple.Call.{calls_from}
use mir.Syntax.{Callee, Sym, Ty, ty_int, ty_ref, ty_enum, tnil, tcons, ttnil, ttcons, mut, erased}
use mir.Syntax.{value_local, local, seq, assign, call, switch, return, arm, no_default, place, copy}
use mir.Syntax.{deref, variant, field, addr_of, rv_opd, aggregate, int, w8}
use mir.Val.{vptr, vint, has_ty, WT}
use lib.Dec.{T}
use prog.Model.{Model}
use prog.Wp.{WpFn}
use types.Kit.{Item, mean}
use types.Logic.{Logic, sem}
use Rattle.sparse_compressed.proofs.FoundEntries.{with_fact}
use Rattle.sparse_csr_csc.proofs.OptionalBorrows.{some_val, none_val, some_in, none_in, option_cases}
use Rattle.sparse_csr_csc.proofs.OptionalBorrows.{follows_if-then, follows_if-none}

-- the code of the function: the types of the matrix, of its core and of the lane, each also as it
-- is written behind a reference, and the two callees
pub record Code : Type 0 where
  pub matrix : Ty
  pub written_matrix : Ty
  pub core : Ty
  pub written_core : Ty
  pub option : Sym
  pub lane : Ty
  pub written_lane : Ty
  pub first : Callee
  pub second : Callee

module _ (c : Code) where
  abbrev pub option_of : Ty → Ty
  option_of τ = ty_enum c.option (ttcons tnil (ttcons (tcons τ tnil) ttnil))

  abbrev pub optional_lane_code : Fn
  optional_lane_code = record {
    lifetimes = 1;
    outlives = (1, 0) ∷ [];
    ty_params = [];
    givens = 0;
    params = 2;
    locals = local (option_of c.written_lane) value_local
        ∷ local (ty_ref (named 0) mut c.written_matrix) value_local
        ∷ local (ty_int w64) value_local
        ∷ local (ty_ref erased mut c.written_core) value_local
        ∷ local (option_of (ty_ref erased mut c.written_core)) value_local
        ∷ local (ty_ref erased mut c.written_matrix) value_local
        ∷ local (option_of c.lane) value_local
        ∷ local c.lane value_local
        ∷ local (ty_ref erased mut c.written_core) value_local ∷ [];
    body = seq (assign (place 5 []) (addr_of (place 1 (deref c.matrix ∷ []))))
        (seq (call c.first (copy (place 5 []) ∷ copy (place 2 []) ∷ []) (place 4 []))
        (seq (switch (copy (place 4 (variant 0 ∷ field 0 ∷ []))) (arm (1 ∷ [])
        (seq (assign (place 3 []) (rv_opd (copy (place 4 (variant 1 ∷ field 1 ∷ [])))))
        (seq (assign (place 8 []) (addr_of (place 3 (deref c.core ∷ []))))
        (seq (call c.second (copy (place 8 []) ∷ copy (place 2 []) ∷ []) (place 7 []))
        (assign (place 6 []) (aggregate (int w8 1 ∷ copy (place 7 []) ∷ []))))))
        (arm (0 ∷ []) (assign (place 6 []) (aggregate (int w8 0 ∷ []))) no_default)))
        (seq (assign (place 0 []) (rv_opd (copy (place 6 [])))) return)));
  }

module _ {M : Type 1} {𝓤 : Ura M} (𝓛 : Logic 𝓤) (𝓜 : Model 𝓤 𝓛.H) (𝓡 : Running 𝓤 𝓛.H 𝓜) where
  -- what the contracts of the two callees say, in terms of the logic
  pub record Calls (c : Code) : Type 2 where
    -- a matrix, its core, an element and a lane
    pub Matrix : RattleType
    pub Core : RattleType
    pub Element : RattleType
    pub Lane : RattleType
    pub borrow : Lft
    -- the arguments, the lifetime tokens, and the fact about lifetimes that every call needs
    pub self : MutBor Matrix.Denot
    pub index : ℕ
    pub is_index : Is usize index (uint_vals w64 index)
    pub tokens : SProp 𝓤
    pub Within : Type 0
    -- the matrix of a core, the core before the call, and a core with other elements in its lane
    pub of_core : Core.Denot → Matrix.Denot
    pub now : Core.Denot
    pub refilled : Core.Denot → (Array Element 0).Denot → Core.Denot
    -- the core has such a lane; this is the lane; the core is sound
    pub Has : Core.Denot → Type 0
    pub IsLane : Core.Denot → Lane.Denot → Type 0
    pub IsGood : Core.Denot → Type 0
    pub name : Lane.Denot → GName
    -- what the callees ensure of their arguments at the end of the lifetimes
    pub LastOfFirst : Type 0
    pub last_of_first : LastOfFirst → Fml
    pub LastOfSecond : MutBor Core.Denot → Type 0
    pub last_of_second : (m : MutBor Core.Denot) → LastOfSecond m → Fml
    pub lane_typed : (w : Lane.Denot) (v : Val) → Is Lane w (v ∷ [])
        → T (has_ty c.lane v) × WT v
    pub option_typed : (r : Option Lane.Denot) (v : Val) → Is (option_row Lane) r (v ∷ [])
        → (T (has_ty (option_of c c.lane) v) × WT v)
        × (T (has_ty (option_of c c.written_lane) v) × WT v)

  module _ (c : Code) (x : Calls c) where
    abbrev 𝓣 : MachineTables 𝓤 𝓛.H 𝓜
    𝓣 = tables 𝓤 𝓛.H 𝓜 𝓡 𝓡.env

    -- the types of the mutable borrow of the core, of the result of the first callee, and of the
    -- result
    abbrev Ref : RattleType
    Ref = MutRef (named 0) x.borrow x.Core

    abbrev Found : RattleType
    Found = option_row Ref

    abbrev Result : RattleType
    Result = option_row x.Lane

    -- the matrix follows the core, and then the elements of the lane
    abbrev FollowsCore : Option (MutBor x.Core.Denot) → Fml
    FollowsCore q = follows_if x.Matrix x.Core x.self.ghost_name (ghost_name_of q) x.of_core
        x.self.now

    abbrev FollowsLane : maybe.Option GName → Fml
    FollowsLane m = follows_if x.Matrix (Array x.Element 0) x.self.ghost_name m
        (λ w. x.of_core (x.refilled x.now w)) x.self.now

    abbrev name_of : Option x.Lane.Denot → maybe.Option GName
    name_of None = maybe.none
    name_of (Some w) = maybe.some (x.name w)

    -- what the callees return
    abbrev found : Val → Item 𝓤
    found v = later (some (λ (q : Found.Denot).
        (raw x.tokens ⊛ ‵ (Found.own_val q (v ∷ []))) ⊛ some (λ (ws : x.LastOfFirst).
        ‵ (x.last_of_first ws) ⊛ (‵ (FollowsCore q) ⊛ (raw (fact 𝓤 (IsSome q ↔ x.Has x.now)) ⊛
        (raw (fact 𝓤 (IfSome q (λ m. m.now ≡ x.now))) ⊛ raw (fact 𝓤 (x.IsGood x.now))))))))

    abbrev wrapped : MutBor x.Core.Denot → Val → Item 𝓤
    wrapped m u = later (some (λ (w : x.Lane.Denot).
        (raw x.tokens ⊛ ‵ (x.Lane.own_val w (u ∷ []))) ⊛ some (λ (ws : x.LastOfSecond m).
        ‵ (x.last_of_second m ws) ⊛ (‵ (follows x.Core (Array x.Element 0) m.ghost_name (x.name w)
        (x.refilled m.now)) ⊛ (raw (fact 𝓤 (x.IsLane m.now w)) ⊛
        raw (fact 𝓤 (x.IsGood m.now)))))))

    -- the tokens and the arguments of the second call
    abbrev passed : MutBor x.Core.Denot → SProp 𝓤
    passed m = sep 𝓤 x.tokens (sem 𝓛 (fsep (Ref.own_val m (mut_vals m))
        (fsep (usize.own_val x.index (uint_vals w64 x.index)) ftrue)))

    abbrev vals_of : {X : Type 0} → MutBor X → List Val
    vals_of m = vptr m.ref_ptr.0 m.ref_ptr.1 ∷ vint w64 x.index ∷ []

    module _ (entry : SProp 𝓤) (post : Val → SProp 𝓤) where
      abbrev start : SProp 𝓤
      start = sep 𝓤 entry (sep 𝓤 (fact 𝓤 x.Within) (emp 𝓤))

      pub returns_optional_lane : ent 𝓤 start (𝓣.C c.first (vals_of x.self) (λ v. mean 𝓛 (found v)))
          → (x.Within → (m : MutBor x.Core.Denot) → x.Has m.now
          → ent 𝓤 (passed m) (𝓣.C c.second (vals_of m) (λ u. mean 𝓛 (wrapped m u))))
          → ((r : Result.Denot) (v : Val) → IsSome r ↔ x.Has x.now
          → IfSome r (λ w. x.IsLane x.now w) → x.IsGood x.now
          → Sq 𝓛 (‵ (Result.own_val r (v ∷ [])) ∷ raw x.tokens ∷ ‵ (FollowsLane (name_of r)) ∷ [])
          (prop (post v)))
          → ent 𝓤 start (WpFn 𝓤 𝓛.H 𝓣.C 𝓣.Λ (optional_lane_code c) (vals_of x.self) post)
      returns_optional_lane finds wraps ends =
          let fn = optional_lane_code c in let s = x.self in let i = x.index in
          qed 𝓛 (raw entry ∷ (raw (fact 𝓤 x.Within) ⊛ raw (emp 𝓤)) ∷ []) ∵
          move ! (1 ∷ []) $ split ! $ heard ! _ (λ le. drop ! $
          use1 𝓛 (raw start) (with_fact 𝓤 x.Within entry le) $
          enter ! _ _ _ _ _ $ alloc_all ! (λ l. pass_all ! refl
          ((tt, tt), ((tt, record { fits = x.is_index.1 }), tt)) $
          let En : Env 𝓤 𝓛.H = env fn.locals l in
          let both : Body = head (after 2 fn.body) in
          let Then : Post 𝓤 𝓛.H =
          any_q (after_seq 𝓤 𝓛.H (Wp 𝓤 𝓛.H 𝓣.C 𝓣.Λ En (after 3 fn.body)
          (at_return 𝓤 𝓛.H En post)) (at_return 𝓤 𝓛.H En post)) in
          sets ! (addr ! (through ! refl (stop !))) refl (tt, tt) $
          calls_from ! (framed 𝓤 𝓛.H 𝓜 𝓣) (raw start) (vals_of s) (λ v. mean 𝓛 (found v)) finds
          (and_then ! (get ! refl) (and_then ! (get ! refl) (no_more !))) (λ v.
          use1 𝓛 (found v) (id⊢ 𝓤 _) $
          await ! tt $ pick ! (λ q. split ! $ split ! $ move ! (2 ∷ []) $ pick !
          (λ ws. split ! $ drop ! $ split ! $ move ! (1 ∷ []) $ split ! $ heard ! _
          (λ inside. split ! $ heard ! _ (λ same. heard ! _ (λ good.
          -- hypotheses: the matrix follows the core; the lifetime tokens; the borrow of the core,
          -- if any
          move ! (2 ∷ []) $ option_cases ! (named 0) x.borrow x.Core v q
          (λ m is-some is-val.
          let same-now : m.now ≡ x.now = subst (λ (o : Option (MutBor x.Core.Denot)). IfSome o
          (λ w. w.now ≡ x.now)) is-some same in
          let has : x.Has x.now =
          (subst (λ (o : Option (MutBor x.Core.Denot)). IsSome o ↔ x.Has x.now) is-some inside).0
          refl in
          lands_as ! is-val refl (tt, (record { fits = lit< tt }, (tt, tt))) $
          first ! $ switches_on ! (get_tag ! (vrt ! refl (fld ! refl (stop !))) (whole !)) $
          exec ! 𝓣.C 𝓣.Λ En (arm_body 0 both) Then $
          sets ! (of_opd ! (get_in ! (vrt ! refl (fld ! refl (stop !)))
          (in_variant ! 1 0 refl refl (whole !)))) refl (tt, tt) $
          sets ! (addr ! (through ! refl (stop !))) refl (tt, tt) $
          -- hypotheses: the core; the matrix follows the core; the lifetime tokens
          nothing ! $ owned ! usize _ (uint_Makes 𝓛 w64) i _ (refl, x.is_index.1) $ fjoin ! $
          move ! (1 ∷ 0 ∷ []) $ fjoin ! $ move ! (2 ∷ 0 ∷ []) $ join ! $
          use1 𝓛 (raw (passed m)) (id⊢ 𝓤 _) $
          calls_from ! (framed 𝓤 𝓛.H 𝓜 𝓣) (raw (passed m)) (vals_of m)
          (λ u. mean 𝓛 (wrapped m u))
          (wraps le m (subst x.Has (sym same-now) has))
          (and_then ! (get ! refl) (and_then ! (get ! refl) (no_more !))) (λ u.
          use1 𝓛 (wrapped m u) (id⊢ 𝓤 _) $
          await ! tt $ pick ! (λ w. split ! $ split ! $ move ! (1 ∷ []) $
          peeks ! x.Lane (Is x.Lane) (shows 𝓛 x.Lane) w (u ∷ []) (λ is-lane-val.
          move ! (2 ∷ []) $ pick ! (λ ws'. split ! $ drop ! $ split ! $ move ! (1 ∷ []) $ split ! $
          heard ! _ (λ is-lane. drop ! $
          -- hypotheses: the core follows the lane; the lane; the lifetime tokens; the matrix
          -- follows the core
          lands_as ! refl refl (x.lane_typed w u is-lane-val) $
          rewrite ! 0 (λ (d : x.Core.Denot). ‵ (follows x.Core (Array x.Element 0) m.ghost_name
          (x.name w) (x.refilled d))) same-now refl $
          rewrite ! 3 (λ (o : Option (MutBor x.Core.Denot)). ‵ (FollowsCore o)) is-some refl $
          move ! (3 ∷ 0 ∷ []) $
          use2 𝓛 (‵ (FollowsLane (maybe.some (x.name w)))) (follows_if-then 𝓛 x.Matrix x.Core
          (Array x.Element 0) s.ghost_name s.now m.ghost_name (x.name w) x.of_core
          (x.refilled x.now)) $
          move ! (1 ∷ []) $
          use1 𝓛 (‵ (Result.own_val (Some w) (some_val u ∷ []))) (some_in 𝓛 x.Lane w u) $
          peeks ! Result (Is Result) (shows 𝓛 Result) (Some w) (some_val u ∷ []) (λ is-result.
          sets_last ! (agg ! (and_then ! (lit ! tt) (and_then ! (get ! refl) (no_more !)))) refl
          (x.option_typed (Some w) (some_val u) is-result).0 $
          exec ! 𝓣.C 𝓣.Λ En (after 3 fn.body) (at_ret En post) $ sets ! (of_opd ! (get ! refl)) refl
          (x.option_typed (Some w) (some_val u) is-result).1 $
          returns ! (look_at ! 0 refl) $ free_all ! refl $ move ! (0 ∷ 2 ∷ []) $
          ends (Some w) (some_val u) ((λ _. has), λ _. refl)
          (subst (λ (d : x.Core.Denot). x.IsLane d w) same-now is-lane) good)))))))
          (λ is-none is-val.
          lands_as ! is-val refl (tt, (record { fits = lit< tt }, tt)) $
          first ! $ switches_on ! (get_tag ! (vrt ! refl (fld ! refl (stop !))) (whole !)) $
          exec ! 𝓣.C 𝓣.Λ En (arm_body 1 both) Then $
          sets_last ! (agg ! (and_then ! (lit ! tt) (no_more !))) refl
          (tt, (record { fits = lit< tt }, tt)) $
          exec ! 𝓣.C 𝓣.Λ En (after 3 fn.body) (at_ret En post) $ sets ! (of_opd ! (get ! refl)) refl
          (tt, (record { fits = lit< tt }, tt)) $
          returns ! (look_at ! 0 refl) $ free_all ! refl $
          rewrite ! 0 (λ (o : Option (MutBor x.Core.Denot)). ‵ (FollowsCore o)) is-none refl $
          use1 𝓛 (‵ (FollowsLane maybe.none)) (follows_if-none 𝓛 x.Matrix x.Core (Array x.Element 0)
          s.ghost_name s.now x.of_core (λ w. x.of_core (x.refilled x.now w))) $
          use0 𝓛 (‵ (Result.own_val None (none_val ∷ []))) (none_in 𝓛 x.Lane) $
          move ! (0 ∷ 2 ∷ []) $
          ends None none_val (subst (λ (o : Option (MutBor x.Core.Denot)). IsSome o ↔ x.Has x.now)
          is-none inside) tt good)))))))))
