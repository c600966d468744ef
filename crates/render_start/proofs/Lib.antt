pub mod LengthsFit
pub mod EngineNeverRefuses
