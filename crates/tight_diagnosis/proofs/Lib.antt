-- Laws of the fault of a block.
pub mod FaultLaws
-- Laws of the second walk.
pub mod PlainLaws
pub mod WayLaws
mod DueLaws
pub mod SampleLaws
pub mod LineLaws
