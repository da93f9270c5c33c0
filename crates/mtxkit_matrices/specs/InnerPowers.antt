-- Exponents of ten, and numbers times powers of ten.
use Rattle.std.specs.Prelude.{◌≡◌, ℕ, ℤ, pos, ◌+◌, ◌*◌, ◌^◌, ◌<◌, Bool, true, false, List}
use Rattle.std.specs.Prelude.{Option, Some, None}
use Rattle.std.specs.Prelude.{if◌then◌else◌}
use Rattle.std.specs.Option.{SomeIff}
use lib.IntN.{neg_ℤ}
use Rattle.mtxkit_matrices.specs.Decimals.{power_of}
use Rattle.mtxkit_matrices.specs.declared.decimals.number.Misfit.{Misfit}
use Rattle.mtxkit_matrices.specs.declared.decimals.number.Misfit.TheVariants.{Fraction, Range}

-- the number with this sign and magnitude
abbrev pub signed : Bool → ℕ → ℤ
signed is_negative magnitude = if is_negative then neg_ℤ (pos magnitude) else pos magnitude

-- the exponent has this sign, and this magnitude if that fits in 64 bits
pub record HasPower (exponent : List ℕ) (is_negative : Bool) (size : Option ℕ) : Type 0 where
  pub magnitude : ℕ
  pub power : power_of exponent ≡ signed is_negative magnitude
  pub known : SomeIff size (magnitude < 2 ^ 64) magnitude

abbrev pub up : Bool → ℕ → ℕ
up true size = 0
up false size = size

abbrev pub down : Bool → ℕ → ℕ
down true size = size
down false size = 0

-- m is total times 10 ^ (scale - behind), and times or divided by 10 ^ size
abbrev pub IsMagnitude : ℕ → ℕ → ℕ → Bool → ℕ → ℕ → Type 0
IsMagnitude total behind scale is_negative size m =
    m * 10 ^ (behind + down is_negative size) ≡ total * 10 ^ (scale + up is_negative size)

-- the least scale at which such a number exists, or none below 2 ^ 32 if there is none
abbrev pub HasLeastScale : ℕ → ℕ → Bool → ℕ → Option ℕ → Type 0
HasLeastScale total behind is_negative size (Some least) =
    ((m : ℕ) × IsMagnitude total behind least is_negative size m)
    × ((scale : ℕ) → scale < least → (m : ℕ) → IsMagnitude total behind scale is_negative size m → ⊥)
HasLeastScale total behind is_negative size None =
    (scale : ℕ) → scale < 2 ^ 32 → (m : ℕ) → IsMagnitude total behind scale is_negative size m → ⊥

-- no such number exists, but one at this least scale; or none that fits in 128 bits
abbrev pub HasNoMagnitude : Misfit → ℕ → ℕ → ℕ → Bool → ℕ → Type 0
HasNoMagnitude (Fraction least) total behind scale is_negative size =
    ((m : ℕ) → IsMagnitude total behind scale is_negative size m → ⊥)
    × HasLeastScale total behind is_negative size least
HasNoMagnitude Range total behind scale is_negative size =
    (m : ℕ) × IsMagnitude total behind scale is_negative size m × (m < 2 ^ 128 → ⊥)

-- the misfit of a nonzero number times a power of ten whose exponent exceeds 64 bits, by the sign of
-- the exponent
abbrev pub extreme : Bool → Misfit
extreme true = Fraction None
extreme false = Range
