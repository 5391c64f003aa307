use Rattle.std.proofs.Common.{rules}
use Rattle.pmf_board.proofs.lemmas.{StepLemmas.{splits}, PassLemmas.{at-equal, after-split}}
use Rattle.pmf_board.proofs.board.Board.split.Goals as goal

pub split_seat-seat-requires : goal.split_seat-seat-requires
split_seat-seat-requires c = (search rules, search rules, splits c.self.inside.table.shared.key c.pass.inside.seat.id c.pass.inside.seat.me.0 (search rules))

pub invariant_of-pass : goal.invariant_of-pass
invariant_of-pass c = at-equal _ _ _ _ _ c.split_seat-seat.ensures.0 c.split_seat-seat.ensures.2 (after-split _ _ c.pass.inside.seat.me (search rules) c.pass.invariant)
