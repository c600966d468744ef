pub mod TargetBounds
pub mod ValidFields
pub mod ValidSeeds
pub mod LoopEnds
pub mod Quintic
pub mod ValueRange
