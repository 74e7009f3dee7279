pub mod AgreeingFiles
