-- What files have when texts are written to them, and what a log is cut into. Defined here.
use Rattle.std.specs.{Prelude.{◌≢◌, ℕ, List, Option, Result, Ok, Err}, Io.KnownBytes.{Appends, Consumes, IsAtEnd, Keeps}}
use Rattle.pmf_stream.specs.declared.outlet.NoFile.{NoFile}
use Rattle.pmf_stream.specs.declared.outlet.NoFile.TheVariants as no_file
use Rattle.pmf_cut.specs.{declared.cutter.Cutter.{Cutter}, declared.output.Text.{Text}, Outputs.{bytes_for}, Cutting.{Drains, HasRead}, Written.{IsCutInto}}

-- how many calls failed where a file was written to
abbrev pub failed_files : {X : Type 0} → Result X NoFile → ℕ
failed_files (Ok done) = 0
failed_files (Err (no_file.Failed written)) = 1
failed_files (Err no_file.OutOfMemory) = 0

-- the text was written at the end of the file, and nothing to any other
abbrev pub AppendsTo : (ℕ → Option (List ℕ)) → (ℕ → Option (List ℕ)) → ℕ → List ℕ → Type 0
AppendsTo held holds file text = Appends (held file) (holds file) text × ((other : ℕ) → other ≢ file → Keeps (held other) (holds other))

-- to each file its text was written
abbrev pub AppendsEach : (ℕ → Option (List ℕ)) → (ℕ → Option (List ℕ)) → (ℕ → List ℕ) → Type 0
AppendsEach held holds texts = (file : ℕ) → Appends (held file) (holds file) (texts file)

-- the stream was read to its end, and the log is cut into what was written to the files; so much was told
pub record IsCutOf (step : ℕ) (left rest : Option (List ℕ)) (held holds : ℕ → Option (List ℕ)) (told : ℕ) : Type 0 where
  pub log : List ℕ
  pub consumed : Consumes left rest log
  pub ended : IsAtEnd rest
  pub texts : ℕ → List ℕ
  pub cut : IsCutInto step log texts told
  pub written : AppendsEach held holds texts

-- what the cutter handed out was written
pub record WritesOut (old new : Cutter) (held holds : ℕ → Option (List ℕ)) : Type 0 where
  pub texts : List Text
  pub drains : Drains old texts new
  pub written : AppendsEach held holds (bytes_for texts)

-- the cutter has cut what was read so far, and what it handed out was written
pub record CutsSoFar (step : ℕ) (left rest : Option (List ℕ)) (held holds : ℕ → Option (List ℕ)) (cutter : Cutter) : Type 0 where
  pub log : List ℕ
  pub consumed : Consumes left rest log
  pub handed : ℕ → List ℕ
  pub written : AppendsEach held holds handed
  pub reads : HasRead step log handed cutter
