pub mod Failures
pub mod Pages
