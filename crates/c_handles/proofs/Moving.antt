-- Functions that move owned memory from one struct of a pointer to another. Assumes `Logic`.
-- - `carrier n m`: the code of such a function, from a struct with the name n to one with the name m
-- - `carries`: this code returns the pointer, and keeps what is owned
-- - `moves`: such a function meets its contract, if its `ensures` is true of the struct that owns the same
use Rattle.std.proofs.Common.{◌≡◌, ℕ, List, [], ◌∷◌, ◌++◌, refl, sym}
use seplogic.Ra.Ura.{Ura}
use mir.Syntax.{aggregate, assign, copy, field, local, place, return, rv_opd, seq, tcons, tnil}
use mir.Syntax.{ty_ptr, ty_struct, value_local, Callee, Fn}
use mir.Val.{Val}
use base.Fml.{ftrue, Fml}
use base.Logic.{emp, ent, SProp}
use prog.Model.{Model}
use prog.Wp.{Closed, WpFn}
use types.Logic.{sem, Logic}
use types.Kit.{‵, raw, ◌⊛◌, prop, ◌$◌, ◌∵◌, !, qed}
use types.Kit.{by, fjoin, fsplit, keep, move, regoal, rewrite, split, use0}
use types.Run.{and_then, enter, fld, no_more, of_opd, returns, stop}
use types.ByLocal.{alloc_all, free_all, get, get_in, look_at, pass_all, sets}
use types.Part.{agg, sub, whole}
use contract.Running.{tables, Running}
use denote.Exit.{yes}
use denote.RattleType.{owns, RattleType}
use denote.RawPtr.{Ptr}
use denote.Signature.{plain, types_at}
use denote.Steps.{nothing}
use denote.Triple.Clauses.{at_exit, closing, Clauses, Ended, Lasts}
use denote.Triple.Spec.{Meets}
use denote.Triple.Walked.{stay_dropped, walk_of, Goes-dropped, Silent, Stays}
use Rattle.std.proofs.raw_atomic.Walks.{leaves, proved_at}
use Rattle.c_handles.proofs.HandleSteps.{owned_by, pointer_good, pointer_in, pointer_out, word, word_good}

abbrev pub carrier : List ℕ → List ℕ → Fn
carrier n m = record {
  lifetimes = 0;
  outlives = [];
  ty_params = [];
  givens = 0;
  params = 1;
  locals = local (ty_struct m (tcons ty_ptr tnil)) value_local
      ∷ local (ty_struct n (tcons ty_ptr tnil)) value_local
      ∷ local ty_ptr value_local ∷ local ty_ptr value_local ∷ [];
  body = seq (assign (place 2 []) (rv_opd (copy (place 1 (field 0 ∷ [])))))
      (seq (assign (place 3 []) (rv_opd (copy (place 2 []))))
      (seq (assign (place 0 []) (aggregate (copy (place 3 []) ∷ []))) return));
}

module _ {M : Type 1} {𝓤 : Ura M} (𝓛 : Logic 𝓤) (𝓜 : Model 𝓤 𝓛.H) (𝓡 : Running 𝓤 𝓛.H 𝓜) where
  open 𝓛 use {H}

  pub carries : (n m : List ℕ) (p : Ptr) (F : Fml) (us : List Val) (Post : Val → SProp 𝓤)
      → ent 𝓤 (sem 𝓛 (owned_by p F (word p ∷ []))) (Post (word p))
      → ent 𝓤 (sem 𝓛 (owned_by p F us)) (WpFn 𝓤 H (tables 𝓤 H 𝓜 𝓡 𝓡.env).C
      (tables 𝓤 H 𝓜 𝓡 𝓡.env).Λ (carrier n m) (us ++ []) Post)
  carries n m p F us Post then = let 𝓣 = tables 𝓤 H 𝓜 𝓡 𝓡.env in
      qed 𝓛 (‵ (owned_by p F us) ∷ []) ∵ pointer_out ! p F us (λ is.
      regoal ! (λ (vs : List Val). prop (WpFn 𝓤 H 𝓣.C 𝓣.Λ (carrier n m) (vs ++ []) Post)) is refl $
      enter ! _ _ _ _ _ $ alloc_all ! (λ l. pass_all ! refl (word_good p, tt) $
      sets ! (of_opd ! (get_in ! (fld ! refl (stop !)) (sub ! 0 refl (whole !)))) refl
      (pointer_good p) $ sets ! (of_opd ! (get ! refl)) refl (pointer_good p) $
      sets ! (agg ! (and_then ! (get ! refl) (no_more !))) refl (word_good p) $
      pointer_in ! p F $ returns ! (look_at ! 0 refl) $ free_all ! refl $ keep ! (0 ∷ []) $
      by ! then))

-- a function from A to B, which keeps the pointer `at` and what is owned, F
module _ (A B : RattleType) where
  abbrev pub En : Ended
  En = record {
    signature = record {
      lifetimes = 0;
      outlives = [];
      params = plain (λ _. A) ∷ [];
      result = plain (λ _. B);
    };
    kept = (yes, tt);
  }

  abbrev pub stayed : Stays En.signature.params En.kept
  stayed = (stay_dropped (plain (λ _. A)) yes, tt)

  module _ {M : Type 1} {𝓤 : Ura M} (𝓛 : Logic 𝓤) (𝓜 : Model 𝓤 𝓛.H) (𝓡 : Running 𝓤 𝓛.H 𝓜)
      (c : Clauses 𝓤 En) (at : A.Denot → Ptr) (F : A.Denot → Fml) (to : A.Denot → B.Denot)
      (opens : (d : A.Denot) (vs : List Val) → A.own_val d vs ≡ owned_by (at d) (F d) vs)
      (closes : (d : A.Denot) (vs : List Val) → B.own_val (to d) vs ≡ owned_by (at d) (F d) vs)
      (silent : Silent 𝓛 0 (plain (λ _. A)) yes)
      (ws : (y : (walk_of 𝓛 En stayed c).Ghost) → Lasts En y.0.0 y.0.3)
      (ensured : (y : (walk_of 𝓛 En stayed c).Ghost) → ent 𝓤 (emp 𝓤)
      ((c y.0.0 y.0.3).ensures y.1 (to y.0.3.0) (at_exit En y.0.0 y.0.3 (ws y)))) where
    open 𝓛 use {H}

    pub moves : (n m : List ℕ) (k : Callee)
        → Closed 𝓤 H (tables 𝓤 H 𝓜 𝓡 𝓡.env).C (tables 𝓤 H 𝓜 𝓡 𝓡.env).Λ k (carrier n m)
        → Meets 𝓛 En.signature ((tables 𝓤 H 𝓜 𝓡 𝓡.env).C k) (closing 𝓛 En c)
    moves n m k closed =
        proved_at 𝓛 En stayed c 𝓜 𝓡 (Goes-dropped 𝓛 0 (plain (λ _. A)) yes silent, tt) k
        (carrier n m) closed (λ z are.
        let d = z.0.3.0 in let Post = (walk_of 𝓛 En stayed c).post z in
        qed 𝓛 ((‵ ftrue ⊛ ‵ (owns (types_at En.signature.params z.0.0) z.0.3 z.0.4))
        ∷ raw ((c z.0.0 z.0.3).requires z.1) ∷ []) ∵
        split ! $ move ! (1 ∷ []) $ fsplit ! $ keep ! (0 ∷ []) $
        rewrite ! 0 (λ (X : Fml). ‵ X) (opens d z.0.4.0) refl $
        by ! (carries 𝓛 𝓜 𝓡 n m (at d) (F d) z.0.4.0 Post
        (qed 𝓛 (‵ (owned_by (at d) (F d) (word (at d) ∷ [])) ∷ []) ∵
        rewrite ! 0 (λ (X : Fml). ‵ X) (sym (closes d (word (at d) ∷ []))) refl $
        use0 𝓛 (raw ((c z.0.0 z.0.3).ensures z.1 (to d) (at_exit En z.0.0 z.0.3 (ws z))))
        (ensured z) $ nothing ! $ nothing ! $ fjoin ! $ nothing ! $ keep ! (0 ∷ 1 ∷ 3 ∷ 2 ∷ []) $
        by ! (leaves 𝓛 En stayed c z (word (at d)) (to d) (ws z) (tt, tt)))))
