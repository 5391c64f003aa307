use Rattle.std.proofs.Common.{rules, ◌≡◌, ◌+◌, ◌≤◌, ap, sym, subst, ◌∙◌, arith}
use Rattle.pmf_board.{specs.Passes.{PassValue}, specs.Views.{times, both, IsFrozen, NeverFalls}, specs.Steps.{Mine}, proofs.lemmas.StepLemmas.{joins, counts}, proofs.lemmas.KeepLemmas.{times-both}, proofs.lemmas.CallLemmas.{NeverFalls-left, NeverFalls-right}, proofs.lemmas.PassLemmas.{at-equal, after-join}}
use Rattle.pmf_board.proofs.board.Board.join.Goals as goal

pub join_seat-requires : goal.join_seat-requires
join_seat-requires c = (search rules, search rules, search rules, search rules, joins c.self.inside.table.shared.key _ _ _ _ c.pass.invariant.2.some)

pub load-requires : goal.load-requires
load-requires c = (search rules, search rules, counts c.self.inside.table.shared.key _ _ _ 0)

pub invariant_of-pass : goal.invariant_of-pass
invariant_of-pass c =
    let joined : c.join_seat.new.seat.me ≡ (both c.pass.inside.seat.me.0 c.other.inside.seat.me.0, c.pass.inside.seat.me.1) = c.join_seat.ensures.2 in
    let same = c.load.ensures.2.0 ∙ joined in
    let few : c.pass.inside.shares + c.other.inside.shares ≤ 65 = omega (arith, c.load.ensures.2.1, ap (λ (m : Mine). m.0.shares) joined, c.pass.invariant.0, c.other.invariant.0) in
    at-equal _ _ _ _ _ (c.load.ensures.0 ∙ c.join_seat.ensures.0) same (after-join _ _ _ c.pass.inside.seat.me c.other.inside.seat.me c.pass.invariant (subst (λ z. Rattle.pmf_board.proofs.lemmas.PassLemmas.IsInside c.other.inside.shares z c.other.inside.seat.me) (search rules) c.other.invariant) few)

pub returns-clause-apart : goal.returns-clause-apart
returns-clause-apart c s k =
    let joined : c.join_seat.new.seat.me ≡ (both c.pass.inside.seat.me.0 c.other.inside.seat.me.0, c.pass.inside.seat.me.1) = c.join_seat.ensures.2 in
    let once : times s k c.pass.inside.seat.me.0 + times s k c.other.inside.seat.me.0 ≤ 1 =
    omega (arith, c.load.ensures.2.2 s k, ap (λ (m : Mine). times s k m.0) joined, times-both c.pass.inside.seat.me.0 c.other.inside.seat.me.0 s k) in
    subst (λ (p : PassValue). times s k p.view + times s k c.args.other.view ≤ 1) c.pass.view_is
    (subst (λ (q : PassValue). times s k c.pass.inside.seat.me.0 + times s k q.view ≤ 1) c.other.view_is once)

pub returns-clause-never_falls : goal.returns-clause-never_falls
returns-clause-never_falls c =
    let joined : c.load.new.seat.me.0 ≡ both c.args.pass.now.view c.args.other.view = search rules in
    let is : IsFrozen (both c.args.pass.now.view c.args.other.view) = subst IsFrozen (ap (λ (m : Mine). m.0) (sym c.load.ensures.2.0) ∙ joined) c.load.ensures.2.3 in
    (subst (NeverFalls c.args.pass.now.view) (sym joined) (NeverFalls-left c.args.pass.now.view c.args.other.view is), subst (NeverFalls c.args.other.view) (sym joined) (NeverFalls-right c.args.pass.now.view c.args.other.view is))
