use Rattle.std.proofs.Common.{map, take}
use Rattle.pmf_ledger.specs.declared.loading.TheConstants.{LEDGER_LIMIT}
use Rattle.pmf_command.specs.Answered.{AreRead}
use Rattle.pmf_command.proofs.requests.texts_of.Given as goal

abbrev pub invariant-loop-name : goal.invariant-loop-name
invariant-loop-name g l = AreRead LEDGER_LIMIT (g.F.Shelf.bytes l.shelf) (map (λ name. name.now) (take l.name-index l.names)) (map (λ text. text.items) l.texts.items)
