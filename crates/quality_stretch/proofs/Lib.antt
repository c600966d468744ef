pub mod Rests
pub mod AtRest
pub mod Orderly
pub mod FirstTests
pub mod Fading
pub mod Handed
pub mod ByTable
pub mod InDraft
