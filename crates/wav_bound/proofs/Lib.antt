pub mod PcmIsWhole
pub mod Filled
pub mod Files
