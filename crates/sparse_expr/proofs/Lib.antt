pub mod Values
mod Joined
mod Postfix
mod Trees
mod Loading
mod Outcome
