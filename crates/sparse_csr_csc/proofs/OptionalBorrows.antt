-- Lemmas for proofs by hand over a call that returns an `Option` of a mutable borrow: making the
-- option, taking cases of it, and composing `follows`.
use mathlib.Core.Path.{◌≡◌, refl, ap, ◌∙◌, subst⁻¹}
use mathlib.Core.List.{List, [], ◌∷◌, ◌++◌}
use mathlib.Core.Option as maybe
use seplogic.Ra.Ura.{Ura}
use mir.Syntax.{Lifetime}
use mir.Val.{Val, vptr, of_list}
use base.Logic.{ent, emp, sep, id⊢}
use base.Fml.{Lft, GName}
use types.Logic.{Logic, sem}
use types.Kit.{Item, Goal, Seq, ‵, ◌$◌, ◌∵◌, !, qed, move, drop, rewrite, fsplit, fjoin, fpick}
use types.Kit.{fpack, feq_l, feq_i, done}
use types.Match.{live}
use denote.RattleType.{RattleType, Valss, owns}
use denote.Enum.Row.{tagged_with}
use denote.Enum.Enum.{form_of, in_a_row}
use denote.Enum.Declared.{shape}
use denote.Follow.{follows, follows_if, follows_by, follows_then}
use denote.Laws.{Is, shows}
use denote.Ref.{MutRef, MutBor, mut_vals, mut_Tells}
use denote.Steps.{nothing, only, peeks}
use Rattle.std.specs.Prelude.{Option, Some, None}
use Rattle.std.specs.contracts.option.Option.{the_row, the_type}

-- the machine values of an option
abbrev pub some_val : Val → Val
some_val v = live 1 (of_list (v ∷ []))

abbrev pub none_val : Val
none_val = live 0 (of_list [])

-- the ownership of `None` and of `Some(x)`
module _ {M : Type 1} {𝓤 : Ura M} (𝓛 : Logic 𝓤) (R : RattleType) where
  pub none_in : ent 𝓤 (emp 𝓤) (sem 𝓛 ((the_row R).own_val None (none_val ∷ [])))
  none_in =
      qed 𝓛 [] ∵ nothing ! $ feq_i ! (List Val) [] [] refl $ fjoin ! $ fpack ! (Valss [])
      (in_a_row [] (owns [] tt) []) tt $
      feq_i ! (List Val) (none_val ∷ []) (none_val ∷ []) refl $ fjoin ! $
      fpack ! (List Val) (tagged_with (form_of (shape (the_type R)))
      (form_of (shape (the_type R))).payload ((the_type R).to None) (none_val ∷ [])) [] $ done !

  pub some_in : (x : R.Denot) (v : Val)
      → ent 𝓤 (sem 𝓛 (R.own_val x (v ∷ [])))
      (sem 𝓛 ((the_row R).own_val (Some x) (some_val v ∷ [])))
  some_in x v =
      qed 𝓛 (‵ (R.own_val x (v ∷ [])) ∷ []) ∵ nothing ! $ move ! (1 ∷ 0 ∷ []) $ fjoin ! $ feq_i !
      (List Val) (v ∷ []) (v ∷ []) refl $ fjoin ! $
      fpack ! (Valss (R ∷ [])) (in_a_row (R ∷ []) (owns (R ∷ []) (x, tt)) (v ∷ [])) (v ∷ [], tt) $
      feq_i ! (List Val) (some_val v ∷ []) (some_val v ∷ []) refl $ fjoin ! $
      fpack ! (List Val) (tagged_with (form_of (shape (the_type R)))
      (form_of (shape (the_type R))).payload ((the_type R).to (Some x)) (some_val v ∷ []))
      (v ∷ []) $ done !

-- cases of an option, and of an option of a `&mut`
module _ {M : Type 1} {𝓤 : Ura M} {𝓛 : Logic 𝓤} {K : Type 0} {Γ : List (Item 𝓤)} {G : Goal 𝓤 𝓛.H}
    (t : K) where
  none_out : (R : RattleType) (vs : List Val) → (vs ≡ none_val ∷ [] → Seq K 𝓛 Γ G)
      → Seq K 𝓛 (‵ ((the_row R).own_val None vs) ∷ Γ) G
  none_out R vs k =
      fpick t (λ us. fsplit t $ feq_l t
      (λ e. fpick t (λ vss. fsplit t $ feq_l t
      (λ e'. drop t $ k
      (subst⁻¹ (λ (ws : List Val). vs ≡ live 0 (of_list ws) ∷ [] → vs ≡ none_val ∷ []) e' (λ p. p)
      e)))))

  some_out : (R : RattleType) (x : R.Denot) (vs : List Val)
      → ((xs : List Val) → vs ≡ live 1 (of_list (xs ++ [])) ∷ []
      → Seq K 𝓛 (‵ (R.own_val x xs) ∷ Γ) G)
      → Seq K 𝓛 (‵ ((the_row R).own_val (Some x) vs) ∷ Γ) G
  some_out R x vs k =
      fpick t (λ us. fsplit t $ feq_l t
      (λ e. fpick t (λ vss. fsplit t $ feq_l t (λ e'. fsplit t $ move t (1 ∷ []) $ drop t $
      k vss.0 (subst⁻¹ (λ (ws : List Val). vs ≡ live 1 (of_list ws) ∷ []
      → vs ≡ live 1 (of_list (vss.0 ++ [])) ∷ []) e' (λ p. p) e)))))

  module _ (ℓ : Lifetime) (κ : Lft) (R : RattleType) where
    pub option_cases : (v : Val) (r : Option (MutBor R.Denot))
        → ((x : MutBor R.Denot) → r ≡ Some x → v ≡ some_val (vptr x.ref_ptr.0 x.ref_ptr.1)
        → Seq K 𝓛 (‵ ((MutRef ℓ κ R).own_val x (mut_vals x)) ∷ Γ) G)
        → (r ≡ None → v ≡ none_val → Seq K 𝓛 Γ G)
        → Seq K 𝓛 (‵ ((the_row (MutRef ℓ κ R)).own_val r (v ∷ [])) ∷ Γ) G
    option_cases v None k none = none_out (MutRef ℓ κ R) (v ∷ []) (λ e. none refl (ap only e))
    option_cases v (Some x) k none = let Ref = MutRef ℓ κ R in some_out Ref x (v ∷ [])
        (λ us e. peeks t Ref (Is Ref) (shows 𝓛 Ref) x us (λ is.
        rewrite t 0 (λ (ws : List Val). ‵ (Ref.own_val x ws)) (mut_Tells ℓ κ R x us is) refl $
        k x refl (ap only (e ∙ ap (λ (ws : List Val). live 1 (of_list (ws ++ [])) ∷ [])
        (mut_Tells ℓ κ R x us is)))))

-- a borrow from a borrowed value: the first lender follows the second borrow
module _ {M : Type 1} {𝓤 : Ura M} (𝓛 : Logic 𝓤) (R S T : RattleType) (γ : GName) (v : R.Denot) where
  pub follows_if-then : (γ' γ'' : GName) (F : S.Denot → R.Denot) (F' : T.Denot → S.Denot)
      → ent 𝓤 (sep 𝓤 (sem 𝓛 (follows_if R S γ (maybe.some γ') F v)) (sem 𝓛 (follows S T γ' γ'' F')))
      (sem 𝓛 (follows_if R T γ (maybe.some γ'') (λ w. F (F' w)) v))
  unfolding follows_by
  follows_if-then γ' γ'' F F' = follows_then 𝓛 R S T F F' γ γ' γ''

  pub follows_if-none : (F : S.Denot → R.Denot) (F' : T.Denot → R.Denot)
      → ent 𝓤 (sem 𝓛 (follows_if R S γ maybe.none F v)) (sem 𝓛 (follows_if R T γ maybe.none F' v))
  unfolding follows_by
  follows_if-none F F' = id⊢ 𝓤 _
