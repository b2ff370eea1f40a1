pub mod Carried
pub mod Fresh
pub mod Going
pub mod OneSchedule
pub mod Rounding
