pub mod Fronts
pub mod Calls
pub mod EngineTurns
pub mod LikeRender
