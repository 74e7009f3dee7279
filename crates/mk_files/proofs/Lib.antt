pub mod HeldFiles
pub mod ListedFiles
