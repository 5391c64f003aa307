pub mod TextJoiningLemmas
pub mod ReadAllLemmas
pub mod StreamLemmas
pub mod AnsweringLemmas
pub mod TakenLemmas
pub mod FilesLemmas
pub mod BesideLemmas
