-- Case distinctions on two numbers and on two Booleans. Those on Booleans are lemmas of std, renamed.
use Rattle.std.proofs.Common.{◌≡◌, ◌≢◌, ℕ, suc, ◌+◌, ◌<◌, ◌≤◌, ◌⊎◌, false, arith}
use Rattle.std.specs.Prelude.{nat_eq}
use Rattle.std.proofs.lemmas.Bool.Decides.{nat_tests}
pub use Rattle.std.proofs.lemmas.Bool.{cases_lt as lt_or_ge, cases_eq as same_or_not}
pub use Rattle.std.proofs.lemmas.Bool.{cases_Bool as true_or_false, and_parts}
pub use Rattle.std.proofs.lemmas.Bool.{and_from as and_both, and_cases as and_fails}
pub use Rattle.std.proofs.lemmas.Bool.{or_cases, or_left, or_right, or_parts as neither}
pub use Rattle.std.proofs.Math.Bool.{or-false as or_false}

pub three : (a b : ℕ) → (a < b) ⊎ ((b < a) ⊎ (a ≡ b))
three a b = grind arith

pub lt_or_gt : (a b : ℕ) → a ≢ b → (a < b) ⊎ (b < a)
lt_or_gt a b ne = grind arith

pub le_cases : (a b : ℕ) → a ≤ b → (a < b) ⊎ (a ≡ b)
le_cases a b le = grind arith

pub lt_suc_cases : (a b : ℕ) → a < suc b → (a < b) ⊎ (a ≡ b)
lt_suc_cases a b lt = grind arith

pub lt_add_one_cases : (a b : ℕ) → a < b + 1 → (a < b) ⊎ (a ≡ b)
lt_add_one_cases a b lt = grind arith

pub nat_eq_no : (a b : ℕ) → a ≢ b → nat_eq a b ≡ false
nat_eq_no a b ne = grind (arith, nat_tests)
