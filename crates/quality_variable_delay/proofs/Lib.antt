pub mod AcceptedCall
pub mod Refused
pub mod BankTests
pub mod Readings
pub mod CommonCall
pub mod ChosenCall
