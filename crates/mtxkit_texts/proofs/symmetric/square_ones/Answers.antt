use Rattle.std.proofs.Common.{length, refl, sym, subst}
use Rattle.mtxkit_texts.specs.Loaded.{MeansMatrixBy}
use Rattle.mtxkit_texts.proofs.symmetric.square_ones.Goals as goal

pub returns-clause-meant : goal.returns-clause-meant
returns-clause-meant c = (
  length c.in_ok-places.places.triplets,
  subst (λ b. MeansMatrixBy b c.args.text.now (length c.in_ok-places.places.triplets)
      c.in_ok-ones_of.field-0) (sym c.requires) (record {
        list = c.in_ok-places.places;
        counted = refl;
        means = c.in_ok-places.ensures.meant;
        pattern = c.in_ok-ones_of.ensures.entries;
        ones = c.in_ok-ones_of.ensures.ones;
      }),
)
