pub mod Ports
pub mod PortAsk
pub mod UnderWay
pub mod TurnsLeft
pub mod PortTurns
pub mod Questions
