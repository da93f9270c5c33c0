mod OptionalBorrows
mod OptionalLanes
