-- Each arm writes the text of its finding: only the grouping of the pieces differs.
use Rattle.std.proofs.Common.{append_assoc}
use Rattle.pmf_verdict.specs.Text.{text_of_finding}
use Rattle.pmf_verdict.proofs.text.push_finding.Goals as goal

pub returns-in-PersistEmpty : goal.returns-in-PersistEmpty
unfolding text_of_finding
returns-in-PersistEmpty c = rw c.in-PersistEmpty.is c.write-in-PersistEmpty.ensures.bytes

pub returns-in-OrderedPass : goal.returns-in-OrderedPass
unfolding text_of_finding
returns-in-OrderedPass c = rw c.in-OrderedPass.is c.write-in-OrderedPass.ensures.bytes

pub returns-in-OrderedEmpty : goal.returns-in-OrderedEmpty
unfolding text_of_finding
returns-in-OrderedEmpty c = rw c.in-OrderedEmpty.is c.write-in-OrderedEmpty.ensures.bytes

pub returns-in-CheckPass : goal.returns-in-CheckPass
unfolding text_of_finding
returns-in-CheckPass c = rw c.in-CheckPass.is c.write-in-CheckPass.ensures.bytes

pub returns-in-Unmatched : goal.returns-in-Unmatched
unfolding text_of_finding
returns-in-Unmatched c = rw c.in-Unmatched.is c.write-in-Unmatched.ensures.bytes

pub returns-in-Outside : goal.returns-in-Outside
unfolding text_of_finding
returns-in-Outside c = rw c.in-Outside.is c.write-in-Outside.ensures.bytes

pub returns-in-Unopened : goal.returns-in-Unopened
unfolding text_of_finding
returns-in-Unopened c = rw c.in-Unopened.is c.write-in-Unopened.ensures.bytes

pub returns-in-TxStillOpen : goal.returns-in-TxStillOpen
unfolding text_of_finding
returns-in-TxStillOpen c = rw c.in-TxStillOpen.is c.write-in-TxStillOpen.ensures.bytes

pub returns-in-Unclosed : goal.returns-in-Unclosed
unfolding text_of_finding
returns-in-Unclosed c = rw c.in-Unclosed.is c.write-in-Unclosed.ensures.bytes

pub returns-in-NoBackup : goal.returns-in-NoBackup
unfolding text_of_finding
returns-in-NoBackup c = rw c.in-NoBackup.is (rw c.in_radix-in-NoBackup.ensures at c.write-in-NoBackup.ensures.bytes)

pub returns-in-DupLog : goal.returns-in-DupLog
unfolding text_of_finding
returns-in-DupLog c = rw c.in-DupLog.is (rw c.in_radix-in-DupLog.ensures at c.write-in-DupLog.ensures.bytes)

pub returns-in-PersistFail : goal.returns-in-PersistFail
unfolding text_of_finding
returns-in-PersistFail c = rw c.in-PersistFail.is (let wrote = rw c.in_radix.ensures at c.write-in-PersistFail.ensures.bytes in simp append_assoc wrote)

pub returns-in-CheckFail : goal.returns-in-CheckFail
unfolding text_of_finding
returns-in-CheckFail c = rw c.in-CheckFail.is (let wrote = rw c.in_radix-in-CheckFail.ensures at c.write-in-CheckFail.ensures.bytes in simp append_assoc wrote)

pub returns-in-FlushDoubled : goal.returns-in-FlushDoubled
unfolding text_of_finding
returns-in-FlushDoubled c = rw c.in-FlushDoubled.is (let wrote = rw c.in_radix-in-FlushDoubled.ensures at c.write-in-FlushDoubled.ensures.bytes in simp append_assoc wrote)

pub returns-in-FlushNeedless : goal.returns-in-FlushNeedless
unfolding text_of_finding
returns-in-FlushNeedless c = rw c.in-FlushNeedless.is (let wrote = rw c.in_radix-in-FlushNeedless.ensures at c.write-in-FlushNeedless.ensures.bytes in simp append_assoc wrote)

pub returns-in_ok-push_pair-in-OrderedFail : goal.returns-in_ok-push_pair-in-OrderedFail
unfolding text_of_finding
returns-in_ok-push_pair-in-OrderedFail c =
    let two = rw c.in_ok-push_str-in-OrderedFail.ensures.bytes at c.in_ok-push_pair-in-OrderedFail.ensures in
    let three = rw two at c.write-in-OrderedFail.ensures.bytes in
    rw c.in-OrderedFail.is (simp append_assoc (simp append_assoc at three))

pub returns-in_ok-push_str-in-OrderedSameLine : goal.returns-in_ok-push_str-in-OrderedSameLine
unfolding text_of_finding
returns-in_ok-push_str-in-OrderedSameLine c =
    let two = rw c.in_ok-push_str-in-OrderedSameLine.ensures.bytes at c.push_pair-in-OrderedSameLine.ensures in
    rw c.in-OrderedSameLine.is (simp append_assoc at two)
