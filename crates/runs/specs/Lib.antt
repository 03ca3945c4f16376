pub mod Driving
pub mod EndRuns
pub mod LentRuns
pub mod LinkRuns
pub mod Shown
pub mod WholeRuns
