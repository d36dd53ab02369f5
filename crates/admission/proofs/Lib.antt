-- Laws on how calls begin.
pub mod BeginningLaws
pub mod CallLaws
-- Laws on how going on in a block begins.
pub mod ResumingLaws
-- Laws on how the writer's calls begin, and on what holds of one that goes on.
pub mod WritingLaws
pub mod SetLaws
-- Laws on refusal 11.
pub mod SampleLaws
