pub mod Codes
pub mod Openings
pub mod Left
pub mod CascadedLeft
