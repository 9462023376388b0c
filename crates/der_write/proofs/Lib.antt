pub mod Contents
pub mod OneOrder
