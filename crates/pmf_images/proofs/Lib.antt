pub mod CountLemmas
pub mod ShownLemmas
pub mod SumsLemmas
pub mod TellingLemmas
