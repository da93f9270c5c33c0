use Rattle.std.proofs.Common.{All, inl, inr, length, map, ap, sym, subst, ◌∙◌}
use Rattle.std.proofs.lemmas.List.{length-map}
use Rattle.std.proofs.lemmas.Result.{err_from_is_err_and}
use Rattle.std.specs.Int.{w64}
use Rattle.std.specs.Int.RustNames.{FitsSigned}
use Rattle.sparse_algebra.specs.Numbers.{w64_number}
use Rattle.sparse_algebra.specs.WrappingValues.{w128_number}
use Rattle.sparse_pattern.specs.Raw.{Raw}
use Rattle.mtxkit_texts.proofs.ExactSums.{exact-sums, narrow-fits, values-narrow}
use Rattle.mtxkit_texts.proofs.values.narrowed.Goals as goal

pub returns-in_err-values-clause-refused : goal.returns-in_err-values-clause-refused
returns-in_err-values-clause-refused c =
    let list = c.args.list.now in
    let fits = narrow-fits list c.requires.few c.requires.narrow in
    let given = c.deref.ensures.value ∙ c.into_pattern_and_values-pattern.ensures.values in
    let p = err_from_is_err_and c.from_residual-in_err-values.result
    c.from_residual-in_err-values.ensures.1 in
    rw (p.1, p.2) (elim c.in_err-values.ensures.refused [
      | inl memory ↦ inl memory
      | inr wide ↦ inr (
        wide.0,
        λ narrow. wide.1
            (subst (All (λ v. FitsSigned w64 (w128_number v))) (sym given)
            (values-narrow list c.in_ok-wide_sums.field-0 c.in_ok-wide_sums.ensures.sound
            c.in_ok-wide_sums.ensures.sums fits narrow)),
      )
    ])

pub joined-requires : goal.joined-requires
joined-requires c =
    sym (length-map c.in_ok-values.values.items w64_number)
    ∙ ap length c.in_ok-values.ensures.same
    ∙ length-map c.deref.result.now w128_number
    ∙ ap length (c.deref.ensures.value ∙ c.into_pattern_and_values-pattern.ensures.values)
    ∙ c.into_pattern_and_values-pattern.ensures.sound.count
    ∙ ap (λ (p : Raw). length p.indices) (sym c.into_pattern_and_values-pattern.ensures.pattern)

pub returns-clause-sums : goal.returns-clause-sums
returns-clause-sums c =
    let list = c.args.list.now in
    let fits = narrow-fits list c.requires.few c.requires.narrow in
    exact-sums list c.in_ok-wide_sums.field-0 c.in_ok-wide_sums.ensures.sound c.in_ok-wide_sums.ensures.sums fits
    c.joined.result c.joined.ensures.sound
    (c.joined.ensures.pattern ∙ c.into_pattern_and_values-pattern.ensures.pattern)
    (ap (map w64_number) c.joined.ensures.values ∙ c.in_ok-values.ensures.same
    ∙ ap (map w128_number)
    (c.deref.ensures.value ∙ c.into_pattern_and_values-pattern.ensures.values))
