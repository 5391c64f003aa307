pub use Rattle.pmf_event.specs.Transactions
pub use Rattle.pmf_shadow.specs.Shadow
pub mod Tracking
pub mod Findings
pub mod Laws
