pub mod ExplanationLemmas
pub mod CheckedLemmas
mod WorkedStatuses
pub mod NamesLemmas
pub mod JoinedLemmas
pub mod MergeLemmas
