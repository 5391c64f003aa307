use Rattle.std.proofs.Common.{arith, refl, sym, subst, None}
use Rattle.pmf_runs.{specs.Ranks.{ChangesWithin, bound_at}, proofs.LevelLemmas.{rewrites-more, rest-more}, proofs.JoinedLevelLemmas.{joins-more}}
use Rattle.pmf_runs.proofs.level.Level.change_parts.Goals as goal

pub loop-i-preserved : goal.loop-i-preserved
loop-i-preserved g c =
    let change = g.C.Change.changed c.args.change.now in
    let state = g.P.Part.state in
    let first : ChangesWithin (bound_at c.args.low c.loop-i.i c.args.from) c.bound_at-last.result change (state c.index_mut.result.now) (state c.rewrite.new.self) =
    subst (λ o. ChangesWithin o c.bound_at-last.result change (state c.index_mut.result.now) (state c.rewrite.new.self)) c.bound_at-first.ensures c.rewrite.ensures.0 in
    let both : ChangesWithin (bound_at c.args.low c.loop-i.i c.args.from) (bound_at c.args.high c.loop-i.i c.args.end) change (state c.index_mut.result.now) (state c.rewrite.new.self) =
    subst (λ o. ChangesWithin (bound_at c.args.low c.loop-i.i c.args.from) o change (state c.index_mut.result.now) (state c.rewrite.new.self)) c.bound_at-last.ensures first in
    let joined = g.P.Part.joined in
    let law : joined c.index_mut.result.now (bound_at c.args.low c.loop-i.i c.args.from) (bound_at c.args.high c.loop-i.i c.args.end) → joined c.rewrite.new.self None None = λ was.
    c.rewrite.ensures.1 (subst (λ o. joined c.index_mut.result.now o c.bound_at-last.result) (sym c.bound_at-first.ensures)
    (subst (joined c.index_mut.result.now (bound_at c.args.low c.loop-i.i c.args.from)) (sym c.bound_at-last.ensures) was)) in
    let high = c.requires.high in
    let test = c.loop-i-test.true in
    let len = c.loop-i.invariant.parts.len in
    record {
      upto = λ more. omega arith;
      keys = c.loop-i.invariant.keys;
      rest = rest-more state change c.args.low c.args.high c.args.from c.args.end c.args.self.now.parts.items c.loop-i.self.parts.items _ c.rewrite.new.self c.loop-i.i refl c.loop-i.invariant.rest;
      parts = rewrites-more state change c.args.low c.args.high c.args.from c.args.end c.args.self.now.parts.items c.loop-i.self.parts.items _ c.index_mut.result.now c.rewrite.new.self c.loop-i.i
          c.loop-i.auto.i (omega (arith, c.args.self.now.parts.ok.0)) c.index_mut.ensures.value both refl c.loop-i.invariant.rest c.loop-i.invariant.parts;
      joins = joins-more joined c.args.low c.args.high c.args.from c.args.end c.args.self.now.parts.items c.loop-i.self.parts.items _ c.index_mut.result.now c.rewrite.new.self c.loop-i.i
          c.loop-i.auto.i (omega (arith, c.args.self.now.parts.ok.0)) c.index_mut.ensures.value law refl c.loop-i.invariant.joins;
    }
