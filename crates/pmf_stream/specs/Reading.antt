-- What was read of a stream. Defined here.
use Rattle.std.specs.{Prelude.{◌≡◌, ℕ, ◌+◌, ◌≤◌, ◌⊎◌, List, ◌++◌, length, Option}, Io.KnownBytes.{Consumes, IsAtEnd}}

-- these bytes were read, at most one more than the limit
pub record HasReadBytes (limit : ℕ) (old new : Option (List ℕ)) (bytes : List ℕ) : Type 0 where
  pub consumed : Consumes old new bytes
  pub few : length bytes ≤ limit + 1

-- the stream was read to its end, or to one byte past the limit
pub record HasReadAll (limit : ℕ) (old new : Option (List ℕ)) (bytes : List ℕ) : Type 0 where
  pub read : HasReadBytes limit old new bytes
  pub all : IsAtEnd new ⊎ (length bytes ≡ limit + 1)

-- at most one byte more than the limit was read
abbrev pub ReadsWithin : ℕ → Option (List ℕ) → Option (List ℕ) → Type 0
ReadsWithin limit old new = (bytes : List ℕ) × HasReadBytes limit old new bytes

-- what the pieces, of at most so many bytes, go to took some bytes, and refused the piece behind them, which is the last that was read
pub record HasReadTo {I E : Type 0} (most : ℕ) (Takes : I → List ℕ → I → Type 0) (Refuses : I → List ℕ → E → Type 0) (limit : ℕ) (old new : Option (List ℕ)) (fresh : I) (fault : E) : Type 0 where
  pub before : List ℕ
  pub piece : List ℕ
  pub small : length piece ≤ most
  pub read : HasReadBytes limit old new (before ++ piece)
  pub taken : I
  pub takes : Takes fresh before taken
  pub refuses : Refuses taken piece fault
