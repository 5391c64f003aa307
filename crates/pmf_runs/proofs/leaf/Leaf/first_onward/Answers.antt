use Rattle.std.proofs.Common.{arith}
use Rattle.pmf_runs.proofs.{LeafLemmas.{leaf-counted, rank-bound}, OnwardLemmas.{onward-none, onward-first, onward-later}}
use Rattle.pmf_runs.proofs.leaf.Leaf.first_onward.Goals as goal

pub next_passing-next-requires : goal.next_passing-next-requires
next_passing-next-requires g c = grind (arith, rank-bound)

pub returns-then-next-len : goal.returns-then-next-len
returns-then-next-len g c = λ d end _ _.
    let counted = leaf-counted c.args.self.now in
    onward-none (g.T.Test.passes c.args.test.now) c.args.self.now c.args.first c.args.index c.requires c.next_passing-next.result (omega (arith, counted, c.args.self.now.keys.ok.0, c.len.ensures, c.if-next-len.true)) c.next_passing-next.ensures.none d end

pub returns-then-next-index : goal.returns-then-next-index
returns-then-next-index g c = λ d end some _.
    let counted = leaf-counted c.args.self.now in
    onward-first (g.T.Test.passes c.args.test.now) c.args.self.now c.args.first c.args.index c.requires c.next_passing-next.result (omega (arith, c.if-next-index.true))
    (λ e. c.next_passing-next.ensures.passes e (omega (arith, counted, c.args.self.now.keys.ok.0, c.args.self.now.states.ok.0, c.len.ensures, c.if-next-len.false))) d end some

pub returns : goal.returns
returns g c = λ d end _ beyond.
    let counted = leaf-counted c.args.self.now in
    let from = c.next_passing-next.ensures.from in
    let other = c.if-next-index.false in
    onward-later (g.T.Test.passes c.args.test.now) c.args.self.now c.args.first c.args.index c.requires c.next_passing-next.result c.index.result.now (omega (arith, from, other))
    (omega (arith, counted, c.args.self.now.keys.ok.0, c.len.ensures, c.if-next-len.false)) c.next_passing-next.ensures.none c.index.ensures
    (λ e. c.next_passing-next.ensures.passes e (omega (arith, counted, c.args.self.now.keys.ok.0, c.args.self.now.states.ok.0, c.len.ensures, c.if-next-len.false))) d end beyond
