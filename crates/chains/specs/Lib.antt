pub mod NodeVerdicts
pub mod Whole
pub mod Surveys
pub mod Frames
pub mod FrameIndices
pub mod Climbs
