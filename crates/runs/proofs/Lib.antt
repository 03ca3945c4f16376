pub mod Steps
pub mod EndRuns
pub mod LinkRuns
