-- The least scale that is found for an error of `integer`.
use Rattle.std.proofs.Common.{◌≡◌, ℕ, List, Option, None, refl}
use Rattle.mtxkit_matrices.specs.declared.decimals.error.ScaleError.{ScaleError}
use Rattle.mtxkit_matrices.specs.declared.decimals.error.ScaleError.TheVariants as errors
use Rattle.mtxkit_commands.specs.Failures.{IsScaleFound}

pub none_found : (text : List ℕ) (error : ScaleError)
    → ((n : ℕ) (least : Option ℕ) → error ≡ errors.Fraction n least → ⊥)
    → IsScaleFound text error None
none_found text (errors.Fraction n least) other = absurd (other n least refl)
none_found text error other = refl
