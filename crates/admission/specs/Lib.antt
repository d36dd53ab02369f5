-- The definitions of how calls begin.
pub mod Beginnings
-- The definitions of how going on in a block begins.
pub mod Resumings
-- The definitions of how the writer's calls begin.
pub mod Writings
-- The definitions of refusal 11.
pub mod Above
pub mod Inside
