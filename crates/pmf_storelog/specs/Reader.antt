-- What a reader in mid-log stands for. Defined here.
use Rattle.std.specs.Prelude.{◌≡◌, ◌≢◌, ℕ, true, false, List, ◌++◌, None, Result, Err, OnOk, OnErr, IfErr, length}
use Rattle.pmf_storelog.specs.{Answers.{IsShown}, LogText.{IsFaultOfAll, out_of_memory, shown_fault, spent}, Progress.{HasParsed}, declared.fault.LogFault.{LogFault}, declared.reader.LogReader.{LogReader}}

-- the reader, which has refused nothing, stands for these bytes of the run
pub record HasRead (run : ℕ) (bytes : List ℕ) (reader : LogReader) : Type 0 where
  pub parsed : HasParsed run bytes reader.progress
  pub total : reader.total ≡ length bytes
  pub ready : reader.spent ≡ false

-- the reader has refused, and answers Spent from then on
abbrev pub IsSpent : LogReader → Type 0
IsSpent reader = reader.spent ≡ true

-- whatever the old reader stands for, at Ok the new one stands for it with the piece behind, and these bytes show no fault; else the fault
-- is the one that they show, whatever follows them, want of memory aside; a refusal spends the reader, and a spent one answers so
pub record Feeds (old : LogReader) (piece : List ℕ) (new : LogReader) (result : Result (Unit {0}) LogFault) : Type 0 where
  pub ok : (run : ℕ) (bytes : List ℕ) → HasRead run bytes old → OnOk result (HasRead run (bytes ++ piece) new)
  pub faultless : (run : ℕ) (bytes : List ℕ) → HasRead run bytes old → OnOk result (shown_fault (bytes ++ piece) ≡ None)
  pub err : (run : ℕ) (bytes : List ℕ) → HasRead run bytes old → IfErr result (λ fault. IsShown fault (shown_fault (bytes ++ piece)))
  pub of_all : (run : ℕ) (bytes : List ℕ) → HasRead run bytes old → IfErr result (λ fault. fault ≢ out_of_memory → IsFaultOfAll fault (bytes ++ piece))
  pub refused : OnErr result (IsSpent new)
  pub is_spent : IsSpent old → result ≡ Err spent
