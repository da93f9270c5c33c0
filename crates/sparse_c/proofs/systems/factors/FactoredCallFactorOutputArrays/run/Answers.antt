use Rattle.std.proofs.Common.{◌≡◌, ℤ, sym, subst, ◌∙◌, rules, refl, to_z, of_z}
use Rattle.std.specs.Int.{w32}
use Rattle.sparse_c.proofs.Factoring.{factors_answered, factors_shown}
use Rattle.sparse_c.specs.Factors.{l_in, Factorises, IsFaultOfFactors}
use Rattle.c_arrays.specs.Arrays.{output_arrays}
use Rattle.sparse_c.proofs.systems.factors.FactoredCallFactorOutputArrays.run.Goals as goal

pub returns : goal.returns
returns g c =
    let status = c.finish_factors.result in
    let same : to_z w32 (of_z w32 status) ≡ status = search rules in
    let R = g.T.Ring.ring in
    let f = g.T.Ring.value in
    let zero = g.met.T.Ring.zero_law in
    let a = c.args.self.a in
    let answer = c.factors_of-answer.result in
    let ensured = c.factors_of-answer.ensures in
    let ended = c.finish_factors.ensures in
    let new = c.finish_factors.new in
    let before = l_in c.args.out.now in
    let after = output_arrays new.offsets new.indices new.values new.places in
    let old = c.args.out.now.diagonal.now in
    record {
      answer = subst (λ (s : ℤ). Factorises R f (IsFaultOfFactors R f a) a before after old
          new.pivots s) (sym same) (factors_answered R f _ zero (λ d. d.items) a answer
          ensured.factors ensured.rows ensured.count before after old new.pivots status ensured.sound
          ensured.fault ended.written ended.rest ended.rest_pivots ended.untouched
          ended.untouched_pivots ended.needed ended.kept ended.refused);
      shown = record { each = λ h. ended.shown (sym same ∙ h) };
      shown_diagonal = record {
        each = λ h. factors_shown R f _ zero (λ d. d.items) a answer ensured.factors ensured.rows
            ensured.count g.T.Number.is_shown new.pivots (ended.shown_pivots (sym same ∙ h));
      };
      offsets = refl;
      indices = refl;
      values = refl;
      diagonal = refl;
      places = refl;
    }
