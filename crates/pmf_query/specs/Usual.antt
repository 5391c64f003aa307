-- Records whose names are known by how they begin. Defined here.
use Rattle.std.specs.Prelude.{◌≡◌, ℕ, ◌<◌, Bool, true, false, List, [], Result, Ok, Err, codes, bytes_eq, slice_index_or}
use Rattle.pmf_storelog.specs.{declared.fault.Cause.{Cause}, declared.record.Saying.{Saying}, declared.record.Saying.TheVariants.{Happens, Enters, Skipped}, Records.{record_of}}
use Rattle.pmf_query.specs.{Decimal.{asserts_decimal}, RecordNames.{known_names, name_of}}

-- whether what a record says is an event, or refused
abbrev pub says_event : Result Saying Cause → Bool
says_event (Ok (Happens event)) = true
says_event (Ok (Enters number)) = false
says_event (Ok Skipped) = false
says_event (Err cause) = true

-- the record has the known name of this index, it gives an event or is refused, and it neither asserts anything nor begins or ends a log
pub record IsUsual (text : List ℕ) (index : ℕ) : Type 0 where
  pub within : index < 13
  pub named : name_of text ≡ slice_index_or known_names index []
  pub says : says_event (record_of text) ≡ true
  pub starts : bytes_eq (name_of text) (codes "START") ≡ false
  pub stops : bytes_eq (name_of text) (codes "STOP") ≡ false
  pub decimal : asserts_decimal text ≡ false
