pub mod RoomRefusal
pub mod HeldSets
pub mod DeskCalls
pub mod BankRead
