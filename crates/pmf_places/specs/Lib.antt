pub use Rattle.pmf_event.specs.Line
pub use Rattle.pmf_event.specs.Store
pub use Rattle.pmf_event.specs.Transactions
pub use Rattle.pmf_runs.specs.Runs
