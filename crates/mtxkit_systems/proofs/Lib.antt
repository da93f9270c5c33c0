mod Listed
mod Solving
