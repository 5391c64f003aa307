pub mod Machine
pub mod Views
pub mod Rule
pub mod Steps
pub mod Calls
pub mod Passes
pub mod Laws
pub mod Workers
