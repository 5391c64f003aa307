-- What answer_stream reads, and what it tells, writes or refuses of it. Defined here.
use Rattle.std.specs.Prelude.{ℕ, List, Option}
use Rattle.pmf_storelog.specs.declared.fault.TheConstants.{LOG_LIMIT}
use Rattle.pmf_stream.specs.Reading.{HasReadAll}

-- what was read has this answer: this is told of it, and this text written
abbrev pub IsAnswerOf : {T : Type 0} → (List ℕ → T → List ℕ → Type 0) → Option (List ℕ) → Option (List ℕ) → T → List ℕ → Type 0
IsAnswerOf IsAnswer left rest told text = (bytes : List ℕ) × HasReadAll LOG_LIMIT left rest bytes × IsAnswer bytes told text

-- what was read is refused for this reason
abbrev pub IsRefusalOf : {E : Type 0} → (List ℕ → E → Type 0) → Option (List ℕ) → Option (List ℕ) → E → Type 0
IsRefusalOf IsRefusal left rest found = (bytes : List ℕ) × HasReadAll LOG_LIMIT left rest bytes × IsRefusal bytes found
