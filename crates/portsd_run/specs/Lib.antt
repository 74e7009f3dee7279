pub mod ScriptRun
pub mod ServiceRun
pub mod CommandLine
pub mod RunReport
