-- Laws about reading a pass.
pub mod StepLaws
pub mod SiteLaws
pub mod RangeLaws
pub mod FrameLaws
pub mod AboveLaws
pub mod WindowLaws
