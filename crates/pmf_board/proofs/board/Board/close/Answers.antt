use Rattle.std.{proofs.Common.{rules, ◌≡◌, sym, subst}, specs.Mem.Slots.{slots_items}}
use Rattle.pmf_board.{specs.Calls.{IsTallied}, specs.Passes.{PassValue}, proofs.lemmas.CloseLemmas.{closed-tallied}}
use Rattle.pmf_board.proofs.board.Board.close.Goals as goal

pub returns-clause-tallied : goal.returns-clause-tallied
returns-clause-tallied c =
    let all : c.pass.inside.seat.me.0.shares ≡ 65 = search rules in
    let is = closed-tallied c.self.inside.table.shared.key c.pass.inside.seat.id c.pass.inside.seat.me.0 (slots_items c.close_with-closed.result.words) _ c.close_with-closed.ensures.values.2 all in
    subst (λ (p : PassValue). IsTallied p.view c.read_words-entries.result.items) c.pass.view_is (subst (IsTallied c.pass.inside.seat.me.0) (sym c.read_words-entries.ensures) is)
