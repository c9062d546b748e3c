pub mod Command
pub mod Lines
pub mod Steps
pub mod MixLaws
pub mod FaultLine
