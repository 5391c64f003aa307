pub mod RequestLemmas
mod SectionWordLemmas
