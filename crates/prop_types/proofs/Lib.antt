pub mod BrokenLaws
pub mod HeldLaws
pub mod PlaceLaws
pub mod There
pub mod TypingLaws
pub mod WholeLaws
