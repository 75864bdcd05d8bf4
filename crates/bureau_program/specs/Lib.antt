pub mod Program
pub mod Replay
pub mod Runs
pub mod RunsAlone
pub mod RunsEnd
pub mod Served
pub mod Serving
