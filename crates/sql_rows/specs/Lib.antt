pub mod Fitting
pub mod Parts
pub mod Running
pub mod Standing
