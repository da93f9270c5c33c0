mod OneEntryPerLane
mod Unwritten
mod Failures
mod Begun
mod Usage
mod Ended
