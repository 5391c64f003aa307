-- A log that is read piece by piece, and what its end or its fault says.
use Rattle.std.proofs.Common.{◌≡◌, ℕ, ◌≤◌, Bool, true, false, nat_lt, if◌then◌else◌, List, [], ◌++◌, length, refl, sym, ◌∙◌, ap, arith, inl, inr, ◌≢◌, Option, Some, None, Ok, Err, ltb-false, append-nil}
use Rattle.pmf_storelog.{specs.declared.fault.LogFault.{LogFault}, specs.declared.fault.TheConstants.{LOG_LIMIT}, specs.declared.reader.LogReader.{LogReader}, specs.LogText.{log_of, shown_fault, shown_within, too_long, or_else, first_fault, first_fault_among, out_of_memory}, specs.Separators.{records_in, parts_of, ended_parts}, specs.LogValue.{LogValue}, specs.Reader.{HasRead}, proofs.CallerLemmas.{log_of-all}}
use Rattle.pmf_lint.specs.{declared.warnings.Warnings.{Warnings}, Warnings.{warnings_of}}
use Rattle.pmf_stream.specs.{Checking.{AreWarnings, HasKept, IsLogOf, IsLogFaultOf}, Reading.{HasReadAll, HasReadTo}, Pieces.{Takes, Refuses}}

second-none : (first second : Option LogFault) → or_else first second ≡ None → second ≡ None
second-none None second is = is
second-none (Some found) second is = let bad : Some found ≡ None = is in cc

fits-unless : (b : Bool) (found : LogFault) → (if b then Some found else None) ≡ None → b ≡ false
fits-unless true found is = let bad : Some found ≡ None = is in cc
fits-unless false found is = refl

-- bytes that show no fault are few enough
fits-from_shown : (bytes : List ℕ) → shown_fault bytes ≡ None → length bytes ≤ LOG_LIMIT
unfolding shown_fault shown_within too_long
fits-from_shown bytes none = ltb-false LOG_LIMIT (length bytes) (fits-unless (nat_lt LOG_LIMIT (length bytes)) _ (second-none _ _ none))

-- a reader stands for no byte at first, and no byte shows no fault
pub nothing-shown : shown_fault [] ≡ None
unfolding shown_fault shown_within too_long records_in ended_parts parts_of first_fault first_fault_among
nothing-shown = refl

-- what was taken to the end of the stream is few enough to be all of it
IsLogOf-all : (run : ℕ) (left rest : Option (List ℕ)) (fresh taken : LogReader) (bytes : List ℕ) (log : LogValue) →
    HasReadAll LOG_LIMIT left rest bytes → Takes fresh bytes taken → HasRead run [] fresh → (HasRead run bytes taken → log_of run bytes ≡ Ok log) → IsLogOf run left rest log
IsLogOf-all run left rest fresh taken bytes log all takes start is =
    let stands = takes run [] (start, nothing-shown) in
    let fits = fits-from_shown bytes stands.1 in record {
      bytes = bytes;
      read = all.read;
      ended = elim all.all [ inl ended ↦ ended | inr long ↦ absurd (omega (arith, long, fits)) ];
      faultless = is stands.0;
    }

-- and the bytes that were kept are its own
pub IsLogOf-kept : (run : ℕ) (left rest : Option (List ℕ)) (fresh taken : LogReader) (bytes : List ℕ) (log : LogValue) →
    HasReadAll LOG_LIMIT left rest bytes → Takes fresh bytes taken → HasRead run [] fresh → (HasRead run bytes taken → log_of run bytes ≡ Ok log) → (strict : Bool) (kept : List ℕ) → (strict ≡ true → kept ≡ bytes) →
    HasKept strict kept (IsLogOf run left rest log) (λ is. is.bytes)
unfolding IsLogOf-all
IsLogOf-kept run left rest fresh taken bytes log all takes start is strict kept same = (IsLogOf-all run left rest fresh taken bytes log all takes start is, same)

-- a fault that a reader shows is that of every log that begins so, and none shows before the piece in which it stands
pub IsLogFaultOf-shown : {I : Type 0} (log : I → LogReader) (TakesSo : I → List ℕ → I → Type 0) → ((a : I) (xs : List ℕ) (b : I) → TakesSo a xs b → Takes (log a) xs (log b)) →
    (run most : ℕ) (left rest : Option (List ℕ)) (fresh : I) (found : LogFault) → HasReadTo most TakesSo (λ a xs fault. Refuses (log a) xs fault) LOG_LIMIT left rest fresh found → HasRead run [] (log fresh) → IsLogFaultOf run most left rest found
IsLogFaultOf-shown log TakesSo so run most left rest fresh found read start memory =
    let stands = so fresh read.before read.taken read.takes run [] (start, nothing-shown) in
    let bytes = read.before ++ read.piece in
    let all = read.refuses run read.before stands memory in record {
      bytes = bytes;
      read = read.read;
      first = ap (log_of run) (sym (append-nil bytes)) ∙ log_of-all run found bytes [] all;
      for_all = inr all;
      stops = (read.before, read.piece, refl, read.small, stands.1);
    }

-- so is one that shows at the end
pub IsLogFaultOf-end : (run most : ℕ) (left rest : Option (List ℕ)) (fresh taken : LogReader) (bytes : List ℕ) (found : LogFault) →
    HasReadAll LOG_LIMIT left rest bytes → Takes fresh bytes taken → HasRead run [] fresh → (HasRead run bytes taken → found ≢ out_of_memory → log_of run bytes ≡ Err found) →
    IsLogFaultOf run most left rest found
IsLogFaultOf-end run most left rest fresh taken bytes found all takes start is memory =
    let stands = takes run [] (start, nothing-shown) in
    let fits = fits-from_shown bytes stands.1 in record {
      bytes = bytes;
      read = all.read;
      first = is stands.0 memory;
      for_all = elim all.all [ inl ended ↦ inl ended | inr long ↦ absurd (omega (arith, long, fits)) ];
      stops = (bytes, [], sym (append-nil bytes), omega arith, stands.1);
    }

-- the warnings of the bytes that were kept are those of the log
pub warnings-kept : (strict : Bool) (kept bytes : List ℕ) (warnings told : Option Warnings) → AreWarnings strict kept warnings → (strict ≡ true → kept ≡ bytes) → told ≡ warnings → AreWarnings strict bytes told
warnings-kept false kept bytes warnings told are same is = is ∙ are
warnings-kept true kept bytes warnings told are same is = is ∙ are ∙ ap (λ bs. Some (warnings_of bs)) (same refl)
