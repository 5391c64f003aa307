use Rattle.std.proofs.Common.{rules, ◌+◌, ◌<◌}
use Rattle.pmf_board.{specs.Rule.{entry_of}, proofs.lemmas.StepLemmas.{exchanges}, proofs.lemmas.PassLemmas.{at-equal, after-seen, after-took}}
use mathlib.Core.Logic.{dite}
use native.Mathlib.Decide.{ℕ_discrete}
use Rattle.pmf_board.proofs.board.Board.exchange.Goals as goal

pub compare_exchange-requires : goal.compare_exchange-requires
compare_exchange-requires c =
    let there : c.args.section < c.self.inside.table.shared.key = search rules in
    (search rules, search rules, exchanges c.self.inside.table.shared.key _ _ c.pass.inside.seat.me c.args.section c.args.word there c.pass.invariant.2.some c.requires.offered.0 c.requires.offered.1)

pub invariant_of-pass : goal.invariant_of-pass
invariant_of-pass c =
    let told = c.compare_exchange.ensures.2 in
    let there : c.args.section < c.pass.inside.seat.table_id.words = search rules in
    dite (ℕ_discrete c.compare_exchange.result c.args.word)
    (λ hit. at-equal _ _ _ _ _ c.compare_exchange.ensures.0 (λ i. (told.2 hit i, told.1 i)) (after-took _ _ c.pass.inside.seat.me c.args.section ((entry_of c.compare_exchange.result).handouts + 1) there c.pass.invariant))
    (λ miss. at-equal _ _ _ _ _ c.compare_exchange.ensures.0 (λ i. (told.3 miss i, told.1 i)) (after-seen _ _ c.pass.inside.seat.me c.args.section (entry_of c.compare_exchange.result) c.pass.invariant))
