pub mod Cases
pub mod EarlyReturns
pub mod RingLemmas
pub mod SumLemmas
pub mod PlainLemmas
pub mod PlainLaws
pub mod RingMapLemmas
pub mod WholeNumbers
pub mod Products
mod NewtonSteps
mod OddNumbers
pub mod ModClasses
mod Euclid
pub mod Integers
