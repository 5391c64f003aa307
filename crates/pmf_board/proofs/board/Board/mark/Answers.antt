use Rattle.std.proofs.Common.{rules, ◌≡◌, ◌<◌, ap, subst, sym}
use Rattle.pmf_board.{specs.Passes.{PassValue, BoardId}, specs.Rule.{entry_of}, specs.Calls.{Marks}, specs.Steps.{Mine}, specs.Views.{HasTaken}, proofs.lemmas.CallLemmas.{Marks-marked}, proofs.lemmas.StepLemmas.{raises}, proofs.lemmas.PassLemmas.{at-equal, after-marked}}
use Rattle.pmf_board.proofs.board.Board.mark.Goals as goal

pub fetch_or-requires : goal.fetch_or-requires
fetch_or-requires c =
    let taken = subst (λ (p : PassValue). HasTaken p.view c.args.task) (sym c.pass.view_is) c.requires.taken in
    let mine : c.args.task.section < c.pass.inside.seat.table_id.words = c.pass.invariant.2.within c.args.task.section c.args.task.number taken in
    let same : c.pass.inside.seat.table_id ≡ c.self.inside.table.shared.table_id = search rules in
    let there : c.args.task.section < c.self.inside.table.shared.table_id.words = subst (λ (z : BoardId). c.args.task.section < z.words) same mine in
    let within : c.args.task.section < c.self.inside.table.shared.key = search rules in
    (same, there, raises c.self.inside.table.shared.key _ _ c.pass.inside.seat.me c.args.task.section within c.pass.invariant.2.some)

pub invariant_of-pass : goal.invariant_of-pass
invariant_of-pass c = at-equal _ _ _ _ _ c.fetch_or.ensures.0 c.fetch_or.ensures.2.1 (after-marked _ _ c.pass.inside.seat.me c.args.task.section (entry_of c.fetch_or.result).handouts c.pass.invariant)

pub returns-clause-marks : goal.returns-clause-marks
returns-clause-marks c =
    let told = c.fetch_or.ensures.2 in
    subst (λ (p : PassValue). Marks p.view c.args.task.section c.fetch_or.new.seat.me.0) c.pass.view_is
    (Marks-marked _ _ c.args.task.section (entry_of c.fetch_or.result) told.0 (ap (λ (m : Mine). m.0) told.1))
