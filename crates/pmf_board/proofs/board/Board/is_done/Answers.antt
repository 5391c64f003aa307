use Rattle.pmf_board.{specs.Rule.{entry_of}, proofs.lemmas.CallLemmas.{Stays-seen}}
use Rattle.pmf_board.proofs.board.Board.is_done.Goals as goal

pub returns-clause-stays : goal.returns-clause-stays
returns-clause-stays c = Stays-seen _ _ c.args.section (entry_of c.look-word.result) c.look-word.ensures.agrees c.look-word.ensures.seen
