use Rattle.std.proofs.Common.{length}
use Rattle.pmf_ledger.{specs.Following.{StandsFor}, specs.Loading.{Reading}, proofs.lemmas.LinesLemmas.{IsAt}}
use Rattle.pmf_ledger.proofs.loading.load_ledger.Given as goal

abbrev pub invariant-loop-end : goal.invariant-loop-end
invariant-loop-end l = (r : Reading) × StandsFor r l.blocks l.next × IsAt l.text l.rest l.line r

abbrev pub decreases-loop-end : goal.decreases-loop-end
decreases-loop-end l = length l.rest
