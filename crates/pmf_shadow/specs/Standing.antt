-- What is told of a run of bytes, which are alike in it.
use Rattle.std.specs.Prelude.{◌≡◌, ℕ, ◌<◌, ◌≤◌, ◌==◌, true, List, Option, None, Some, if◌then◌else◌}
use Rattle.pmf_event.specs.{declared.event.Event.{Event}, Store.{last_store}, Exclusion.{is_excluded}, LineBytes.{is_undurable, is_unwritten}}
use Rattle.pmf_shadow.specs.declared.standing.Standing.{Standing}

-- the place that was told of a store, if there is one
abbrev pub place_as_told : (ℕ → ℕ) → ℕ → Option ℕ
place_as_told told place = if place == 0 then None else Some (told place)

-- byte b stands so at p
pub record StandsSo (told : ℕ → ℕ) (es : List Event) (p b : ℕ) (standing : Standing) : Type 0 where
  pub last : standing.last ≡ place_as_told told (last_store es p b)
  pub undurable : standing.undurable ≡ is_undurable es p b
  pub unwritten : standing.unwritten ≡ is_unwritten es p b
  pub excluded : standing.excluded ≡ is_excluded es p b

-- each byte from the first up to the end stands so
abbrev pub AllStandSo : (ℕ → ℕ) → List Event → ℕ → ℕ → ℕ → Standing → Type 0
AllStandSo told es p first end standing = (b : ℕ) → first ≤ b → b < end → StandsSo told es p b standing

-- byte b stands so at p, but that its last store is told where it is not durable
pub record LeavesOpen (told : ℕ → ℕ) (es : List Event) (p b : ℕ) (standing : Standing) : Type 0 where
  pub last : standing.undurable ≡ true → standing.last ≡ place_as_told told (last_store es p b)
  pub undurable : standing.undurable ≡ is_undurable es p b
  pub unwritten : standing.unwritten ≡ is_unwritten es p b
  pub excluded : standing.excluded ≡ is_excluded es p b

-- each byte from the first up to the end does
abbrev pub AllLeaveOpen : (ℕ → ℕ) → List Event → ℕ → ℕ → ℕ → Standing → Type 0
AllLeaveOpen told es p first end standing = (b : ℕ) → first ≤ b → b < end → LeavesOpen told es p b standing

-- none of the bytes from the first up to the end was stored to
abbrev pub NoneStored : List Event → ℕ → ℕ → ℕ → Type 0
NoneStored es p first end = (b : ℕ) → first ≤ b → b < end → last_store es p b ≡ 0

-- bytes that begin at the first or later, and of which there are some, up to the end at most
pub record LiesBetween (first end : ℕ) (bytes : ℕ × ℕ) : Type 0 where
  pub from : first ≤ bytes.0
  pub some : bytes.0 < bytes.1
  pub within : bytes.1 ≤ end

-- each of them was stored to, and none from the first on that lies before them
pub record AreFirstStored (es : List Event) (p first : ℕ) (bytes : ℕ × ℕ) : Type 0 where
  pub before : NoneStored es p first bytes.0
  pub stored : (b : ℕ) → bytes.0 ≤ b → b < bytes.1 → 0 < last_store es p b
