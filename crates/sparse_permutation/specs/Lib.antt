pub mod Permutations
pub mod PermutationFaults
pub mod PermutedPlain
pub mod PermutedPatterns
pub mod InnerRenumbered
