-- What is kept of bytes that more bytes follow.
use Rattle.std.proofs.{Common.{◌≡◌, ℕ, ◌+◌, ◌-◌, List, [], ◌∷◌, ◌++◌, Result, Ok, Err, OnOk, IfErr, length, take, drop, sym, ap, subst, ◌∙◌, arith, append_assoc, take-append-drop}, lemmas.List.{take_rest}, Math.Seq.{take-add}, lemmas.Grind.{common_steps}}
use Rattle.pmf_storelog.{specs.declared.fault.LogFault.{LogFault}, specs.declared.progress.Progress.{Progress}, specs.Separators.{records_in, parts_of, ended_parts, ended_records}, specs.LogText.{first_fault}, specs.Answers.{IsShown}, specs.Tally.{HasTaken}, specs.Progress.{HasParsed}, proofs.PartLemmas.{parts_of-nil, ended_is, ended_parts-open, parts_of-open, parts_of-ended, ended_records-ended}, proofs.LogLemmas.{first_fault-ended}, proofs.TallyLemmas.{records_in-none}}

-- no bytes have one part, which is empty
pub parsed_none : (run : ℕ) (progress : Progress) → HasTaken run [] progress.tally → progress.carry.items ≡ [] → HasParsed run [] progress
parsed_none run progress taken empty =
    let none : ended_parts [] ≡ [] = ended_is [] [] [] parts_of-nil in
    record {
      taken = subst (λ (records : List (List ℕ)). HasTaken run records progress.tally) (sym (ap records_in none ∙ records_in-none)) taken;
      parts = rw (none, empty) parts_of-nil;
    }

module _ (run : ℕ) (bytes : List ℕ) (old : Progress) (parsed : HasParsed run bytes old) where
  -- bytes without a separator are kept
  pub parsed_open : (rest : List ℕ) (new : Progress) → parts_of rest ≡ rest ∷ [] → new.tally ≡ old.tally → new.carry.items ≡ old.carry.items ++ rest → HasParsed run (bytes ++ rest) new
  parsed_open rest new open_end same carry = grind (arith, common_steps, ended_parts-open, parts_of-open)

  -- a separator at the end ends the part that was kept
  pub parsed_ended : (piece end : List ℕ) (new : Progress) → parts_of piece ≡ end ∷ [] ∷ [] →
      HasTaken run (ended_records bytes ++ records_in ((old.carry.items ++ end) ∷ [])) new.tally → new.carry.items ≡ [] → HasParsed run (bytes ++ piece) new
  parsed_ended piece end new ends taken empty = grind (arith, common_steps, ended_records-ended, parts_of-ended)

  -- and so its fault is shown
  pub shown_ended : (piece end : List ℕ) (fault : LogFault) → parts_of piece ≡ end ∷ [] ∷ [] →
      IsShown fault (first_fault (ended_records bytes ++ records_in ((old.carry.items ++ end) ∷ []))) → IsShown fault (first_fault (ended_records (bytes ++ piece)))
  shown_ended piece end fault ends shown = rw (ended_records-ended bytes piece old.carry.items end parsed.parts ends) shown

-- a fault that a front of the piece shows is shown by the piece
pub shown_by_front : (bytes front piece rest : List ℕ) (fault : LogFault) → front ++ rest ≡ piece →
    IsShown fault (first_fault (ended_records (bytes ++ front))) → IsShown fault (first_fault (ended_records (bytes ++ piece)))
shown_by_front bytes front piece rest fault whole shown = grind (arith, common_steps, append_assoc, first_fault-ended)

-- with nothing kept, what `take_part` answers of the bytes before the separator is said of the piece
module _ (run : ℕ) (bytes : List ℕ) (old : Progress) (parsed : HasParsed run bytes old) (piece end : List ℕ) where
  pub first_ended_ok : (new : Progress) (r : Result (Unit {0}) LogFault) → parts_of piece ≡ end ∷ [] ∷ [] → old.carry.items ≡ [] → new.carry.items ≡ [] →
      OnOk r (HasTaken run (ended_records bytes ++ records_in (end ∷ [])) new.tally) → OnOk r (HasParsed run (bytes ++ piece) new)
  first_ended_ok new (Err fault) ends none empty taken = tt
  first_ended_ok new (Ok done) ends none empty taken =
      let same : (old.carry.items ++ end) ≡ end = ap (λ (carry : List ℕ). carry ++ end) none in parsed_ended run bytes old parsed piece end new ends (rw same taken) empty

  pub first_ended_err : (r : Result (Unit {0}) LogFault) → parts_of piece ≡ end ∷ [] ∷ [] → old.carry.items ≡ [] →
      IfErr r (λ fault. IsShown fault (first_fault (ended_records bytes ++ records_in (end ∷ [])))) →
      IfErr r (λ fault. IsShown fault (first_fault (ended_records (bytes ++ piece))))
  first_ended_err (Ok done) ends none shown = tt
  first_ended_err (Err fault) ends none shown =
      let same : (old.carry.items ++ end) ≡ end = ap (λ (carry : List ℕ). carry ++ end) none in shown_ended run bytes old parsed piece end fault ends (rw same shown)

-- the next part, as the loop cuts it out
pub next_part : (piece : List ℕ) (start len : ℕ) →
    parts_of (take (len + 1) (take (length piece - start) (drop start piece))) ≡ take len (take (length piece - start) (drop start piece)) ∷ [] ∷ [] →
    parts_of (take (len + 1) (drop start piece)) ≡ take (start + len - start) (drop start piece) ∷ [] ∷ []
next_part piece start len ends = let same : start + len - start ≡ len = omega arith in rw same (rw (take_rest piece start) at ends)

-- the loop over a piece: `start` bytes of it are taken, and `len` more stand before the next separator
module _ (run : ℕ) (bytes piece : List ℕ) (start len : ℕ) where
  pub front_longer : (progress : Progress) → HasParsed run ((bytes ++ take start piece) ++ take (len + 1) (drop start piece)) progress → HasParsed run (bytes ++ take (start + (len + 1)) piece) progress
  front_longer progress parsed = rw (take-add start (len + 1) piece, ← append_assoc bytes (take start piece) (take (len + 1) (drop start piece))) parsed

  pub shown_in_piece : (fault : LogFault) → IsShown fault (first_fault (ended_records ((bytes ++ take start piece) ++ take (len + 1) (drop start piece)))) → IsShown fault (first_fault (ended_records (bytes ++ piece)))
  shown_in_piece fault shown =
      shown_by_front bytes (take (start + (len + 1)) piece) piece (drop (start + (len + 1)) piece) fault (take-append-drop (start + (len + 1)) piece)
      (rw (take-add start (len + 1) piece, ← append_assoc bytes (take start piece) (take (len + 1) (drop start piece))) shown)
