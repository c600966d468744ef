pub mod Lengths
pub mod Jams
pub mod PlainValues
pub mod UnpackMeaning
pub mod PackMeaning
pub mod UnpackNormal
