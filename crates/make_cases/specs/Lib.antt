pub mod FailingFiles
