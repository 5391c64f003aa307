pub mod SameTransactionLemmas
pub mod TrackLemmas
pub mod SearchLemmas
