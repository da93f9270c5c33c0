use Rattle.std.proofs.Common.{◌≡◌, true, length, refl, sym, subst, rules}
use Rattle.mtxkit_texts.specs.Headers.{header_in, is_pattern}
use Rattle.mtxkit_texts.specs.Loaded.{MeansValuesBy}
use Rattle.mtxkit_texts.proofs.values.load_values.Goals as goal

pub returns-in_ok-ones_of-clause-meant : goal.returns-in_ok-ones_of-clause-meant
returns-in_ok-ones_of-clause-meant c =
    let text = c.args.text.now in
    let matrix = c.in_ok-ones_of.field-0 in
    let names : is_pattern (header_in text) ≡ true = search rules in
    subst (λ b. MeansValuesBy b text matrix) (sym names) (
      length c.in_ok-places.places.triplets,
      record {
        list = c.in_ok-places.places;
        counted = refl;
        means = c.in_ok-places.ensures.meant;
        pattern = c.in_ok-ones_of.ensures.entries;
        ones = c.in_ok-ones_of.ensures.ones;
      },
    )
