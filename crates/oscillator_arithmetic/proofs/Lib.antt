pub mod AnswerValues
pub mod NothingRefused
pub mod PowerBound
pub mod PhaseCycle
