pub mod Within
pub mod Shaped
pub mod NoStuck
pub mod Ended
pub mod StateFacts
pub mod LeastWeights
pub mod StepMeasure
pub mod CaseMarks
