-- What the texts of ledgers give that are joined, text after text. Defined here.
use Rattle.std.specs.Prelude.{◌≡◌, ◌≢◌, ◌⊎◌, ℕ, zero, suc, ◌<◌, ◌≤◌, List, [], length, take, slice_index_or, None, All, flat_map}
use Rattle.pmf_event.specs.{declared.profile.Profile.{Profile}, declared.profile.Profile.TheVariants.{One}, Section.{Trace}}
use Rattle.pmf_ledger.specs.{declared.form.Form.{Form}, declared.joining.JoinFault.{JoinFault}, Joining.{AgreeTogether}, Gathered.{GathersBoth, IsLeastClash, IsLedgerOf, Unites}, AllKept.{AllKept, AllFilled}, LedgerValue.{LedgerValue}, Loading.{IsRefusedWith, LoadsAs, MayWantMemory, fault_of, reading_of}, Report.{totals_of}}
use Rattle.pmf_stream.specs.{declared.joining.Joined.{Joined}, declared.joining.JoinTextFault.{JoinTextFault}, Checking.{IsTooLong, IsWrittenOf}}
use Rattle.pmf_ledger.specs.declared.joining.JoinFault.TheVariants as join
use Rattle.pmf_stream.specs.declared.joining.JoinTextFault.TheVariants as fault

-- the sections of a text's blocks
unfoldable pub blocks_of : List ℕ → List Trace
blocks_of text = (reading_of text).blocks

-- the text is that of a ledger by the profile
unfoldable pub IsOfProfile : Profile → List ℕ → Type 0
IsOfProfile profile text = (fault_of text ≡ None) × ((reading_of text).profile ≡ profile)

-- the ledger is that of the sections of all texts, which are by one profile; of no text it is by profile One
pub record IsJoinOf (texts : List (List ℕ)) (ledger : LedgerValue) : Type 0 where
  pub by_one : All (IsOfProfile ledger.profile) texts
  pub gathered : IsLedgerOf ledger.profile (flat_map blocks_of texts) ledger
  pub of_none : texts ≡ [] → ledger.profile ≡ One

-- the texts before the one of this index are joined to this ledger
pub record IsReached (texts : List (List ℕ)) (index : ℕ) (before : LedgerValue) : Type 0 where
  pub within : index < length texts
  pub joined : IsJoinOf (take index texts) before

-- two ledgers are not joined for this reason
abbrev pub IsJoinFaultOf : LedgerValue → LedgerValue → JoinFault → Type 0
IsJoinFaultOf a b join.ProfileMismatch = a.profile ≢ b.profile
IsJoinFaultOf a b (join.Conflict name) = (a.profile ≡ b.profile) × IsLeastClash a b name
IsJoinFaultOf a b join.OutOfMemory = (a.profile ≡ b.profile) × AgreeTogether a b

-- the text of this index is refused with this fault: it is refused itself, or its ledger does not join that of the texts
-- before it; memory is wanted where it may be, by the text or by the join
abbrev pub IsRefusedAt : LedgerValue → ℕ → List ℕ → JoinTextFault → Type 0
IsRefusedAt before index text (fault.Load told found) = (told ≡ index) × IsRefusedWith text found
IsRefusedAt before index text (fault.Join join.OutOfMemory) = ⊥
IsRefusedAt before index text (fault.Join found) = (1 ≤ index) × (after : LedgerValue) × LoadsAs text after × IsJoinFaultOf before after found
IsRefusedAt before index text fault.TooLong = ⊥
IsRefusedAt before index text fault.OutOfMemory =
    MayWantMemory text ⊎ ((1 ≤ index) × (after : LedgerValue) × LoadsAs text after × IsJoinFaultOf before after join.OutOfMemory)

-- text after text, those before one of them are joined, and that one is refused with this fault
abbrev pub IsRefusedInTurn : List (List ℕ) → JoinTextFault → Type 0
IsRefusedInTurn texts found =
    (index : ℕ) × (before : LedgerValue) × IsReached texts index before × IsRefusedAt before index (slice_index_or texts index []) found

-- they are refused in turn; or all are joined, and their ledger is too long to be written. Want of memory is answered otherwise by a command
abbrev pub IsRefusalOfTexts : Form → List (List ℕ) → JoinTextFault → Type 0
IsRefusalOfTexts form texts fault.TooLong = (ledger : LedgerValue) × IsJoinOf texts ledger × IsTooLong form ledger
IsRefusalOfTexts form texts fault.OutOfMemory = ⊥
IsRefusalOfTexts form texts found = IsRefusedInTurn texts found

-- the new ledger is that of both, which are by one profile
pub record IsJoinOfTwo (before after new : LedgerValue) : Type 0 where
  pub same : before.profile ≡ after.profile
  pub unites : Unites before after new
  pub gathers : GathersBoth before after new

-- the text of this index begins, or its ledger joins that of the texts before it
abbrev pub IsJoinedAt : LedgerValue → ℕ → List ℕ → LedgerValue → Type 0
IsJoinedAt before zero text new = LoadsAs text new
IsJoinedAt before (suc index) text new =
    (after : LedgerValue) × LoadsAs text after × IsJoinOfTwo before after new

-- this text is written of the texts' ledger in this form, and what is told of it is so; where no row fails, all that the sections of all texts
-- assert holds, and where none is EMPTY, each assertion had something to check
pub record IsJoinedText (form : Form) (texts : List (List ℕ)) (joined : Joined) (text : List ℕ) : Type 0 where
  pub ledger : LedgerValue
  pub joins : IsJoinOf texts ledger
  pub written : IsWrittenOf form ledger text
  pub fails : joined.fails ≡ (totals_of ledger.sections).fail
  pub kept : joined.fails ≡ 0 → AllKept (flat_map blocks_of texts)
  pub filled : (totals_of ledger.sections).empty ≡ 0 → AllFilled (flat_map blocks_of texts)
