pub mod BothWays
pub mod QuickWay
