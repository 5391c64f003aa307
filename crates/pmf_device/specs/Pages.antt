-- How much of a text was written that is made part by part. Defined here.
use Rattle.std.specs.{Prelude.{◌≡◌, ℕ, ◌<◌, ◌≤◌, List, length, take, Option, Result, Err, MatchResult}, Io.KnownBytes.{Appends}}
use Rattle.pmf_device.specs.declared.page.{Page.{Page}, Stop.{Stop}}
use Rattle.pmf_device.specs.declared.page.Stop.TheVariants as stop

-- this front of a text was written, to a sink that held some bytes before and holds more now
pub record IsPage (held holds : Option (List ℕ)) (front : List ℕ) (page : Page) : Type 0 where
  pub written : Appends held holds front
  pub count : page.written ≡ length front

-- how many writes failed
abbrev pub failed_puts : {X : Type 0} → Result X Stop → ℕ
failed_puts (Err (stop.Failed written)) = 1
failed_puts _ = 0

-- exactly so many bytes of such a text were written, and not all where a write failed
abbrev pub StopsIn : (List ℕ → Type 0) → Option (List ℕ) → Option (List ℕ) → Stop → Type 0
StopsIn IsText held holds (stop.Failed written) = (text : List ℕ) × IsText text × (written < length text) × Appends held holds (take written text)
StopsIn IsText held holds stop.OutOfMemory = (text : List ℕ) × (written : ℕ) × IsText text × (written ≤ length text) × Appends held holds (take written text)

-- such a text was written, or a front of one
abbrev pub WritesText : (List ℕ → Type 0) → Option (List ℕ) → Option (List ℕ) → {X : Type 0} → Result X Stop → Type 0
WritesText IsText held holds result = MatchResult result (λ done. (text : List ℕ) × IsText text × Appends held holds text) (StopsIn IsText held holds)
