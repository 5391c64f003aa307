use Rattle.std.proofs.Common.{◌≡◌, ◌+◌, ◌-◌, ◌∙◌, ap, arith, sym, subst}
use Rattle.pmf_runs.{specs.Ranks.{low_rank, high_rank, IsInner}, proofs.RankLemmas.{low-law, high-law_none, high-law_is, none-is-any}, proofs.LevelLemmas.{level-rewritten}, proofs.JoinedLevelLemmas.{parts-rewritten_some, parts-rewritten_none}}
use Rattle.pmf_runs.proofs.level.Level.rewrite_all.Goals as goal

pub returns-then-is_some : goal.returns-then-is_some
returns-then-is_some g c =
    let keys = c.args.self.now.keys.items in
    let low : c.low_rank-low.result ≡ low_rank keys c.args.from = c.low_rank-low.ensures ∙ ap (λ ks. low_rank ks c.args.from) c.deref.ensures.value in
    let first = subst (λ ks. IsInner ks c.args.from c.inner_bound-first.result) c.deref-2.ensures.value c.inner_bound-first.ensures in
    let at : c.high_rank-high.result ≡ high_rank keys c.args.end = c.high_rank-high.ensures ∙ ap (λ ks. high_rank ks c.args.end) c.deref-3.ensures.value in
    let last = subst (λ ks. IsInner ks c.args.end c.inner_bound-last.result) c.deref-4.ensures.value c.inner_bound-last.ensures in (
      level-rewritten g.P.Part.state (g.C.Change.changed c.args.change.now) c.args.self.now c.change_parts.new.self c.low_rank-low.result c.high_rank-high.result c.args.from c.args.end
          c.inner_bound-first.result c.inner_bound-last.result
          (low-law keys c.args.from c.inner_bound-first.result c.low_rank-low.result c.args.self.now.ordered low first)
          (high-law_is keys c.args.end c.inner_bound-last.result c.high_rank-high.result c.args.self.now.ordered at (sym c.is_some.ensures ∙ c.if-is_some.true) last)
          c.change_parts.ensures.keys c.change_parts.ensures.parts,
      parts-rewritten_some g.P.Part.joined c.args.self.now c.change_parts.new.self c.low_rank-low.result c.high_rank-high.result c.args.from c.args.end
          c.inner_bound-first.result c.inner_bound-last.result low at first last c.requires.order c.change_parts.ensures.keys c.change_parts.ensures.joins,
    )

pub returns-then-high-gt0 : goal.returns-then-high-gt0
returns-then-high-gt0 g c =
    let keys = c.args.self.now.keys.items in
    let low : c.low_rank-low.result ≡ low_rank keys c.args.from = c.low_rank-low.ensures ∙ ap (λ ks. low_rank ks c.args.from) c.deref.ensures.value in
    let first = subst (λ ks. IsInner ks c.args.from c.inner_bound-first.result) c.deref-2.ensures.value c.inner_bound-first.ensures in
    let at : c.high_rank-high.result ≡ high_rank keys c.args.end = c.high_rank-high.ensures ∙ ap (λ ks. high_rank ks c.args.end) c.deref-3.ensures.value in
    let last = subst (λ ks. IsInner ks c.args.end c.inner_bound-last.result) c.deref-4.ensures.value c.inner_bound-last.ensures in
    let none = none-is-any c.inner_bound-last.result (sym c.is_some.ensures ∙ c.if-is_some.false) in
    let before : c.high_rank-high.result - 1 + 1 ≡ high_rank keys c.args.end = omega arith in (
      level-rewritten g.P.Part.state (g.C.Change.changed c.args.change.now) c.args.self.now c.change_parts-then-high-gt0.new.self c.low_rank-low.result (c.high_rank-high.result - 1) c.args.from c.args.end
          c.inner_bound-first.result c.inner_bound-last.result
          (low-law keys c.args.from c.inner_bound-first.result c.low_rank-low.result c.args.self.now.ordered low first)
          (high-law_none keys c.args.end c.inner_bound-last.result (c.high_rank-high.result - 1) c.args.self.now.ordered before none last)
          c.change_parts-then-high-gt0.ensures.keys c.change_parts-then-high-gt0.ensures.parts,
      parts-rewritten_none g.P.Part.joined c.args.self.now c.change_parts-then-high-gt0.new.self c.low_rank-low.result (c.high_rank-high.result - 1) c.args.from c.args.end
          c.inner_bound-first.result c.inner_bound-last.result low before none first last c.requires.order c.change_parts-then-high-gt0.ensures.keys c.change_parts-then-high-gt0.ensures.joins,
    )
