pub mod OneReading
pub mod Kernels
pub mod DirectSums
pub mod DirectCall
pub mod PutBack
pub mod CascadedSums
pub mod CascadedCall
