pub mod FileName
pub mod SearchPath
pub mod World
pub mod FilesView
pub mod Place
pub mod Parts
