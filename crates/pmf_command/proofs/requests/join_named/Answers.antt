use Rattle.std.{proofs.Common.{arith}, proofs.lemmas.Bool.Decides.{nat_tests}}
use Rattle.pmf_command.proofs.JoinedLemmas.{JoinsNamed-none, JoinsNamed-some}
use Rattle.pmf_command.proofs.requests.join_named.Goals as goal

pub returns-then-is_empty : goal.returns-then-is_empty
returns-then-is_empty g c = JoinsNamed-none c.args.files.now.joining c.args.form c.args.names.now _ _ _ _ (grind (arith, nat_tests)) c.refused.ensures

pub returns-in-Load : goal.returns-in-Load
returns-in-Load g c = JoinsNamed-some c.args.files.now.joining c.args.form c.args.names.now _ _ _ _ (grind (arith, nat_tests)) (rw c.in-Load.is c.load_named.ensures)

pub returns-in-Merge : goal.returns-in-Merge
returns-in-Merge g c = JoinsNamed-some c.args.files.now.joining c.args.form c.args.names.now _ _ _ _ (grind (arith, nat_tests)) (rw c.in-Merge.is c.merge_named.ensures)

pub returns-in-Trust : goal.returns-in-Trust
returns-in-Trust g c = JoinsNamed-some c.args.files.now.joining c.args.form c.args.names.now _ _ _ _ (grind (arith, nat_tests)) (rw c.in-Trust.is c.trust_named.ensures)
