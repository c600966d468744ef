pub mod AcceptedReading
pub mod RoundTheEnd
pub mod BothWays
pub mod AnswerByRefusal
