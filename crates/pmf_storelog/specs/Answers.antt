-- What a call answers, held against what is defined, want of memory aside. Defined here.
use Rattle.std.specs.Prelude.{◌≡◌, ◌≢◌, Option, Some, Result, Ok, Err, MatchResult}
use Rattle.pmf_storelog.specs.{LogValue.{LogValue}, LogText.{out_of_memory}, declared.fault.LogFault.{LogFault}}

-- the fault that is answered is the one that is shown, or want of memory
abbrev pub IsShown : LogFault → Option LogFault → Type 0
IsShown fault shown = fault ≢ out_of_memory → shown ≡ Some fault

-- the log that is answered is the one that is defined, and so is a fault, but for want of memory
abbrev pub Answers : Result LogValue LogFault → Result LogValue LogFault → Type 0
Answers answer defined =
    MatchResult answer (λ log. defined ≡ Ok log) (λ fault. fault ≢ out_of_memory → defined ≡ Err fault)
