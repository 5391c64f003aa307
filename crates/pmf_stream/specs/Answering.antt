-- What each command answers that reads a stream and then writes one text. Defined here.
use Rattle.std.specs.{Prelude.{◌≡◌, ◌⊎◌, ℕ, ◌+◌, ◌<◌, List, length, take, Option, Result, Ok, Err}, Io.KnownBytes.{Appends}}
use Rattle.pmf_stream.specs.declared.fault.StreamFault.{StreamFault}
use Rattle.pmf_stream.specs.declared.fault.StreamFault.TheVariants as fault

-- how many reads failed: one at ReadFault
abbrev pub failed_reads : {T E : Type 0} → Result T (StreamFault E) → ℕ
failed_reads (Err fault.ReadFault) = 1
failed_reads _ = 0

-- how many writes failed: one at WriteFault
abbrev pub failed_writes : {T E : Type 0} → Result T (StreamFault E) → ℕ
failed_writes (Err (fault.WriteFault written)) = 1
failed_writes _ = 0

-- the fault is a refusal of what was read
abbrev pub IsRefused : {E : Type 0} → StreamFault E → Type 0
IsRefused (fault.Refused found) = Unit {0}
IsRefused _ = ⊥

-- the fact of each refusal but WriteFault
abbrev pub OnOtherFault : {T E : Type 0} → Result T (StreamFault E) → Type 0 → Type 0
OnOtherFault (Ok done) P = Unit {0}
OnOtherFault (Err (fault.WriteFault written)) P = Unit {0}
OnOtherFault (Err _) P = P

-- what a fault of the reading says: a refusal its own fact; a write has not failed yet
abbrev pub RefusesReading : {E : Type 0} → (E → Type 0) → StreamFault E → Type 0
RefusesReading IsRefusal fault.ReadFault = Unit {0}
RefusesReading IsRefusal (fault.Refused found) = IsRefusal found
RefusesReading IsRefusal (fault.WriteFault written) = ⊥
RefusesReading IsRefusal fault.OutOfMemory = Unit {0}

-- ReadFault is told exactly where a read failed, WriteFault exactly where a write did, and with every other
-- refusal nothing was written: from the failed calls of both streams before and after, and the written one
pub record TellsFaults {W T E : Type 0} (read read_then wrote wrote_then : ℕ) (sink sink_then : W) (result : Result T (StreamFault E)) : Type 0 where
  pub reads : read_then ≡ read + failed_reads result
  pub writes : wrote_then ≡ wrote + failed_writes result
  pub unwritten : OnOtherFault result (sink_then ≡ sink)

-- the fact of a failed read, or a refusal
abbrev pub OnReading : {T E : Type 0} → Result T (StreamFault E) → Type 0 → Type 0
OnReading (Err fault.ReadFault) P = P
OnReading (Err (fault.Refused found)) P = P
OnReading _ P = Unit {0}

-- the fact of want of memory
abbrev pub OnWant : {T E : Type 0} → Result T (StreamFault E) → Type 0 → Type 0
OnWant (Err fault.OutOfMemory) P = P
OnWant _ P = Unit {0}

-- nothing was written, or the front of a text of what was done
abbrev pub Begins : {T W : Type 0} → (T → List ℕ → Type 0) → (W → Option (List ℕ)) → W → W → Type 0
Begins {T} IsText held sink sink_then =
    (sink_then ≡ sink) ⊎ ((done : T) × (text : List ℕ) × (written : ℕ) × IsText done text × Appends (held sink) (held sink_then) (take written text))

-- the same of a text that is written part by part: where memory is wanted, its front may have been written
pub record TellsFaultsOfParts {W T E : Type 0} (IsText : T → List ℕ → Type 0) (held : W → Option (List ℕ)) (read read_then wrote wrote_then : ℕ) (sink sink_then : W) (result : Result T (StreamFault E)) : Type 0 where
  pub reads : read_then ≡ read + failed_reads result
  pub writes : wrote_then ≡ wrote + failed_writes result
  pub unwritten : OnReading result (sink_then ≡ sink)
  pub unfinished : OnWant result (Begins IsText held sink sink_then)

-- at Ok the text of what was done was written, to a stream that held some bytes before and holds more after; at
-- WriteFault exactly so many bytes of such a text, and not all; at a refusal what the refusal says
abbrev pub Answers : {T E : Type 0} → (T → List ℕ → Type 0) → (E → Type 0) → Option (List ℕ) → Option (List ℕ) → Result T (StreamFault E) → Type 0
Answers IsText IsRefusal held holds (Ok done) = (text : List ℕ) × IsText done text × Appends held holds text
Answers {T} IsText IsRefusal held holds (Err (fault.WriteFault written)) =
    (done : T) × (text : List ℕ) × IsText done text × (written < length text) × Appends held holds (take written text)
Answers IsText IsRefusal held holds (Err (fault.Refused found)) = IsRefusal found
Answers IsText IsRefusal held holds (Err _) = Unit {0}

-- the text of what was done was written, or exactly so many bytes of it and not all
abbrev pub Writes : {T E : Type 0} → T → List ℕ → Option (List ℕ) → Option (List ℕ) → Result T (StreamFault E) → Type 0
Writes done text held holds (Ok told) = (told ≡ done) × Appends held holds text
Writes done text held holds (Err (fault.WriteFault written)) = (written < length text) × Appends held holds (take written text)
Writes done text held holds (Err _) = ⊥
