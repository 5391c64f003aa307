pub mod WorkingLemmas
pub mod RollLemmas
pub mod GatherLemmas
pub mod TurnLemmas
