pub use Rattle.pmf_event.specs.Persist
pub use Rattle.pmf_event.specs.Order
pub use Rattle.pmf_event.specs.FlushWarnings
pub use Rattle.pmf_shadow.specs.Shadow
pub use Rattle.pmf_shadow.specs.Told
