pub mod ManyRuns
pub mod Running
pub mod Serving
