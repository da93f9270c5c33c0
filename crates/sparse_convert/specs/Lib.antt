pub mod InnerTripletLanes
pub mod InnerTripletLists
pub mod InnerMerged
pub mod InnerInOrder
pub mod OneMatrix
pub mod FromDense
pub mod ToDense
