-- How the faults of a ledger text, of a join and of a name that stands twice are told. ASCII. Defined here.
use Rattle.std.specs.Prelude.{ℕ, List, ◌++◌, ◌==◌, if◌then◌else◌, codes, decimal}
use Rattle.pmf_storelog.specs.{declared.fault.LogFault.{LogFault}, FaultText.{words_of_cause}}
use Rattle.pmf_event.specs.declared.name.Name.{Name}
use Rattle.pmf_ledger.specs.declared.joining.JoinFault.{JoinFault}
use Rattle.pmf_ledger.specs.declared.block_lines.BlockFault.{BlockFault}
use Rattle.pmf_ledger.specs.declared.block_lines.BlockFault.TheVariants as block
use Rattle.pmf_ledger.specs.declared.joining.JoinFault.TheVariants as join
use Rattle.pmf_ledger.specs.declared.loading.{LedgerFault.{LedgerFault}, LedgerFault.TheVariants.{NotALedger, FalseRows, Conflict, Log, OutOfMemory}}

-- what is told of an event: its text line, if the fault is of one, and the words of the cause
abbrev pub text_of_log : LogFault → List ℕ
text_of_log fault =
    if fault.at == 0 then words_of_cause fault.cause
    else codes "line " ++ decimal fault.at ++ codes ": " ++ words_of_cause fault.cause

-- the words of a conflict
unfoldable pub words_of_conflict : List ℕ
words_of_conflict = codes "held with other events"

-- the text of a fault
abbrev pub text_of_fault : LedgerFault → List ℕ
text_of_fault (NotALedger line) = codes "line " ++ decimal line ++ codes ": not a ledger"
text_of_fault (FalseRows name) = codes "section " ++ decimal name.run ++ codes "." ++ decimal name.number ++ codes ": rows are false"
text_of_fault (Conflict name) = codes "section " ++ decimal name.run ++ codes "." ++ decimal name.number ++ codes ": " ++ words_of_conflict
text_of_fault (Log fault) = text_of_log fault
text_of_fault OutOfMemory = codes "out of memory"

-- the text of a fault of a text that is read block by block
abbrev pub text_of_block_fault : BlockFault → List ℕ
text_of_block_fault (block.Text fault) = text_of_fault fault
text_of_block_fault (block.OutOfOrder name) = codes "section " ++ decimal name.run ++ codes "." ++ decimal name.number ++ codes ": out of order"

-- the text of a refused join
abbrev pub text_of_join : JoinFault → List ℕ
text_of_join join.ProfileMismatch = codes "profiles differ"
text_of_join (join.Conflict name) = codes "section " ++ decimal name.run ++ codes "." ++ decimal name.number ++ codes ": " ++ words_of_conflict
text_of_join join.OutOfMemory = codes "out of memory"

-- the text of a name that stands twice
abbrev pub text_of_twice : Name → List ℕ
text_of_twice name = codes "section " ++ decimal name.run ++ codes "." ++ decimal name.number ++ codes ": handed in twice"
