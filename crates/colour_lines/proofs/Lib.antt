-- Laws about the colour lines.
pub mod LineLaws
pub mod MoveLaws
