-- The definitions of the pump.
pub mod Pump
pub mod Inside
