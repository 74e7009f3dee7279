mod FirstOperator
mod Reading
mod Parts
mod Steps
