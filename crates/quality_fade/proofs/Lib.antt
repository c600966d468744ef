pub mod StaysInRange
pub mod OneCall
pub mod FadeToEnd
pub mod AfterCalls
