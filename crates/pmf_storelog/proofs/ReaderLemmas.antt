-- What a reader says of all bytes fed to it.
use Rattle.std.proofs.{Common.{◌≡◌, ◌≢◌, ℕ, ◌+◌, ◌-◌, ◌<◌, ◌≤◌, min, List, [], ◌∷◌, ◌++◌, Some, None, Result, Ok, Err, IfOk, IfErr, length, length-append, take, refl, sym, ap, subst, ◌∙◌, arith, append_assoc, take_all}, lemmas.List.{take_min}, Math.Seq.{take-append-add}, Math.Nat.{min_comm}, lemmas.Grind.{common_steps}}
use Rattle.pmf_storelog.{specs.declared.fault.TheConstants.{LOG_LIMIT}, specs.declared.fault.Cause.TheVariants.{TooLong}, specs.declared.fault.LogFault.{LogFault}, specs.declared.tally.Tally.{Tally}, specs.declared.progress.Progress.{Progress}, specs.Separators.{records_in, records_of, ended_records}, specs.LogValue.{LogValue}, specs.LogText.{skipped_of, sections_of, first_fault, shown_fault, fault_of, value_of, log_of, out_of_memory}, specs.Answers.{IsShown, Answers}, specs.Tally.{HasTaken}, specs.Progress.{HasParsed, HasParsedTo}, proofs.PartLemmas.{ended_parts-open, records_of-unfinished}, proofs.LogLemmas.{shown_within-short, shown_within-long, shown_within-early, fault_within-short}, proofs.ProgressLemmas.{parsed_open}}

-- what lies within the limit
pub taken_front : (limit : ℕ) (bytes piece : List ℕ) → length bytes ≤ limit → take limit (bytes ++ piece) ≡ bytes ++ take (min (length piece) (limit - length bytes)) piece
taken_front limit bytes piece short =
    let room : limit ≡ length bytes + (limit - length bytes) = omega arith in ap (λ n. take n (bytes ++ piece)) room ∙ take-append-add bytes piece (limit - length bytes)
    ∙ ap (λ front. bytes ++ front) (sym (ap (λ m. take m piece) (min_comm (length piece) (limit - length bytes)) ∙ take_min (limit - length bytes) piece))

module _ (run : ℕ) (bytes piece rest : List ℕ) (progress : Progress) (reached : HasParsedTo run bytes piece rest progress) where
  all_is : bytes ++ piece ≡ (bytes ++ reached.front) ++ rest
  all_is = ap (λ all. bytes ++ all) (sym reached.whole) ∙ sym (append_assoc bytes reached.front rest)

  -- the tally is that of the whole piece
  pub taken_to : HasTaken run (ended_records (bytes ++ piece)) progress.tally
  taken_to = grind (arith, common_steps, all_is, ended_parts-open)

  -- with the rest kept, the whole piece is read
  pub parsed_to : (new : Progress) → new.tally ≡ progress.tally → new.carry.items ≡ progress.carry.items ++ rest → HasParsed run (bytes ++ piece) new
  parsed_to new same carry = rw all_is (parsed_open run (bytes ++ reached.front) progress reached.parsed rest new reached.open_end same carry)

-- a log whose records have no fault has its value
pub log_of-ok : (run : ℕ) (bytes : List ℕ) (log : LogValue) → length bytes ≤ LOG_LIMIT → first_fault (records_of bytes) ≡ None →
    log ≡ record { sections = sections_of run (records_of bytes); skipped = skipped_of (records_of bytes) } → log_of run bytes ≡ Ok log
unfolding log_of fault_of value_of
log_of-ok run bytes log short none is = rw (fault_within-short LOG_LIMIT bytes short, none) (ap (λ l. Ok l) (sym is))

pub log_of-err : (run : ℕ) (bytes : List ℕ) (fault : LogFault) → length bytes ≤ LOG_LIMIT → first_fault (records_of bytes) ≡ Some fault → log_of run bytes ≡ Err fault
unfolding log_of fault_of
log_of-err run bytes fault short is = rw (fault_within-short LOG_LIMIT bytes short, is) refl

-- a fault that bytes show is theirs
pub log_of-shown : (run : ℕ) (bytes : List ℕ) (fault : LogFault) → fault_of bytes ≡ Some fault → log_of run bytes ≡ Err fault
unfolding log_of
log_of-shown run bytes fault is = rw is refl

-- one call of `feed`: so many bytes of the piece lie within the limit
module _ (run : ℕ) (bytes piece : List ℕ) (total taken : ℕ) (fed : total ≡ length bytes) (within : total ≤ LOG_LIMIT) (room : taken ≡ min (length piece) (LOG_LIMIT - total)) where
  front_is : take LOG_LIMIT (bytes ++ piece) ≡ bytes ++ take taken piece
  front_is = taken_front LOG_LIMIT bytes piece (omega arith) ∙ ap (λ n. bytes ++ take n piece) (sym (room ∙ ap (λ n. min (length piece) (LOG_LIMIT - n)) fed))

  -- a fault of a record comes first
  pub fed_faulty : (fault : LogFault) → IsShown fault (first_fault (ended_records (bytes ++ take taken piece))) → IsShown fault (shown_fault (bytes ++ piece))
  unfolding shown_fault
  fed_faulty fault shown = λ memory. shown_within-early LOG_LIMIT (bytes ++ piece) fault (ap (λ all. first_fault (ended_records all)) front_is ∙ shown memory)

  -- where a part of the piece is left over, the log is too long
  pub fed_long : (rest : List ℕ) (progress : Progress) (fault : LogFault) → HasParsedTo run bytes (take taken piece) rest progress → taken < length piece →
      fault ≡ record { at = progress.tally.records + 1; cause = TooLong } → shown_fault (bytes ++ piece) ≡ Some fault
  unfolding shown_fault
  fed_long rest progress fault reached left is =
      let same = ap (λ all. ended_records all) front_is in let tally = taken_to run bytes (take taken piece) rest progress reached in
      shown_within-long LOG_LIMIT (bytes ++ piece) (omega (arith, length-append bytes piece)) (ap first_fault same ∙ tally.faultless)
      ∙ ap (λ n. Some (record { at = n + 1; cause = TooLong })) (ap length same ∙ sym tally.count) ∙ ap (λ f. Some f) (sym is)

  -- else the whole piece is read
  pub fed_whole : (rest : List ℕ) (old new : Progress) → HasParsedTo run bytes (take taken piece) rest old → length piece ≤ taken →
      new.tally ≡ old.tally → new.carry.items ≡ old.carry.items ++ rest → HasParsed run (bytes ++ piece) new
  fed_whole rest old new reached all same carry =
      let whole : take taken piece ≡ piece = take_all taken piece all in
      subst (λ (read : List ℕ). HasParsed run (bytes ++ read) new) whole (parsed_to run bytes (take taken piece) rest old reached new same carry)

  pub fed_length : length piece ≤ taken → total + taken ≡ length (bytes ++ piece)
  fed_length all = omega (arith, length-append bytes piece)

  pub fed_none : (new : Progress) → length piece ≤ taken → HasParsed run (bytes ++ piece) new → shown_fault (bytes ++ piece) ≡ None
  unfolding shown_fault
  fed_none new all parsed = shown_within-short LOG_LIMIT (bytes ++ piece) (omega (arith, length-append bytes piece)) ∙ parsed.taken.faultless

-- the end of a log: the unfinished part is read as a record
module _ (run : ℕ) (bytes : List ℕ) (progress : Progress) (parsed : HasParsed run bytes progress) (short : length bytes ≤ LOG_LIMIT) where
  whole_is : records_of bytes ≡ ended_records bytes ++ records_in (progress.carry.items ∷ [])
  whole_is = records_of-unfinished bytes progress.carry.items parsed.parts

  pub end_faulty : (fault : LogFault) → IsShown fault (first_fault (ended_records bytes ++ records_in (progress.carry.items ∷ []))) → fault ≢ out_of_memory → log_of run bytes ≡ Err fault
  end_faulty fault shown memory = log_of-err run bytes fault short (ap first_fault whole_is ∙ shown memory)

  pub end_ok : (tally : Tally) (r : Result LogValue LogFault) → HasTaken run (ended_records bytes ++ records_in (progress.carry.items ∷ [])) tally →
      ((run : ℕ) (records : List (List ℕ)) → HasTaken run records tally → IfOk r (λ log. log ≡ record { sections = sections_of run records; skipped = skipped_of records })) →
      IfErr r (λ fault. fault ≡ out_of_memory) → Answers r (log_of run bytes)
  end_ok tally (Ok log) taken ok err =
      let all = subst (λ (records : List (List ℕ)). HasTaken run records tally) (sym whole_is) taken in log_of-ok run bytes log short all.faultless (ok run (records_of bytes) all)
  end_ok tally (Err fault) taken ok err = λ memory. absurd (memory err)
