-- What a question answers whose answer is written as it is found. Defined here.
use Rattle.std.specs.{Prelude.{◌≡◌, ℕ, List, Option, Result, Ok, Err}, Io.KnownBytes.{Appends}}
use Rattle.pmf_device.specs.{declared.page.Stop.TheVariants.{Failed}, Pages.{StopsIn}}
use Rattle.pmf_query.specs.declared.streaming.Unanswered.{Unanswered}
use Rattle.pmf_query.specs.declared.streaming.Unanswered.TheVariants.{Refused, Stopped}

-- how many writes failed
abbrev pub failed_answers : {T E : Type 0} → Result T (Unanswered E) → ℕ
failed_answers (Err (Stopped (Failed written))) = 1
failed_answers _ = 0

-- at Ok the text of what is told was written, to a sink that held some bytes before and holds more after; at Stopped the front of such
-- a text; at Refused nothing was written, and the refusal says why
abbrev pub Recites : {T E W : Type 0} → (T → List ℕ → Type 0) → (E → Type 0) → (W → Option (List ℕ)) → W → W → Result T (Unanswered E) → Type 0
Recites IsText IsRefusal held sink sink_then (Ok told) = (text : List ℕ) × IsText told text × Appends (held sink) (held sink_then) text
Recites {T} IsText IsRefusal held sink sink_then (Err (Stopped why)) = (told : T) × StopsIn (IsText told) (held sink) (held sink_then) why
Recites IsText IsRefusal held sink sink_then (Err (Refused found)) = IsRefusal found × (sink_then ≡ sink)
