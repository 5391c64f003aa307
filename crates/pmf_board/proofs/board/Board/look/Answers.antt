use Rattle.std.proofs.Common.{rules}
use Rattle.pmf_board.{specs.Rule.{entry_of}, proofs.lemmas.StepLemmas.{looks}, proofs.lemmas.PassLemmas.{at-equal, after-seen}}
use Rattle.pmf_board.proofs.board.Board.look.Goals as goal

pub load-requires : goal.load-requires
load-requires c = (search rules, search rules, looks c.self.inside.table.shared.key _ _ c.pass.inside.seat.me c.args.section c.pass.invariant.2.some)

pub invariant_of-pass : goal.invariant_of-pass
invariant_of-pass c = at-equal _ _ _ _ _ c.load.ensures.0 c.load.ensures.2.1 (after-seen _ _ c.pass.inside.seat.me c.args.section (entry_of c.load.result) c.pass.invariant)
