-- The listed moduli are prime.
use Rattle.std.proofs.Common.{refl, lit<, ℕ, List, [], ◌∷◌}
use Rattle.sparse_lu_laws.specs.Primes.{IsPrime}
use Rattle.sparse_lu_laws.proofs.Generators.{passes, prime_by_generator}
use Rattle.sparse_lu_laws.proofs.Powers.{power_modulo, squared_times}
use Rattle.sparse_lu_laws.proofs.TrialDivision.{is_small_prime, no_divisor, small_prime}
use Rattle.sparse_lu_laws.proofs.TrialDivision.{none_divides, prime_by_trial}

pub prime_2 : IsPrime 2
unfolding is_small_prime no_divisor
prime_2 = small_prime 2 refl

pub prime_3 : IsPrime 3
unfolding is_small_prime no_divisor
prime_3 = small_prime 3 refl

pub prime_5 : IsPrime 5
unfolding is_small_prime no_divisor
prime_5 = small_prime 5 refl

pub prime_7 : IsPrime 7
unfolding is_small_prime no_divisor
prime_7 = small_prime 7 refl

pub prime_11 : IsPrime 11
unfolding is_small_prime no_divisor
prime_11 = small_prime 11 refl

pub prime_13 : IsPrime 13
unfolding is_small_prime no_divisor
prime_13 = small_prime 13 refl

pub prime_101 : IsPrime 101
unfolding is_small_prime no_divisor
prime_101 = small_prime 101 refl

pub prime_65537 : IsPrime 65537
unfolding none_divides
prime_65537 = prime_by_trial 65537 8 (lit< tt) (lit< tt) refl

pub prime_998244353 : IsPrime 998244353
unfolding none_divides
prime_998244353 = prime_by_trial 998244353 15 (lit< tt) (lit< tt) refl

pub prime_1000000007 : IsPrime 1000000007
unfolding none_divides
prime_1000000007 = prime_by_trial 1000000007 15 (lit< tt) (lit< tt) refl

-- the primes whose product is 2 ^ 61 - 2
abbrev factors : List ℕ
factors = 2 ∷ 3 ∷ 3 ∷ 5 ∷ 5 ∷ 7 ∷ 11 ∷ 13 ∷ 31 ∷ 41 ∷ 61 ∷ 151 ∷ 331 ∷ 1321 ∷ []

-- 37 is a primitive root
pub prime_2305843009213693951 : IsPrime 2305843009213693951
unfolding is_small_prime no_divisor passes power_modulo squared_times
prime_2305843009213693951 =
    prime_by_generator 2305843009213693950 37 61 (lit< tt) (lit< tt) refl factors refl refl refl
