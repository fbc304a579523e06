pub mod Copying
mod Undoing
