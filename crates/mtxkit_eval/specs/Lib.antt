pub mod Moduli
pub mod Rings
pub mod Extents
pub mod Errors
pub mod Values
pub mod Evaluated
