pub mod Lu
pub mod Ranks
pub mod Kernels
pub mod Refutations
pub mod Primes
