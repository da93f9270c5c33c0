mod Inverses
mod Norms
mod Chinese
mod RingMaps
