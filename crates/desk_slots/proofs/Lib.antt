pub mod FloatOrder
pub mod RisingRooms
pub mod RisingSlots
pub mod OnlySlots
