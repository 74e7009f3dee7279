pub mod FailingStreams
