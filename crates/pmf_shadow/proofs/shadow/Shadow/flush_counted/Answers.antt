use Rattle.std.proofs.Common.{◌*◌, refl, ap}
use Rattle.pmf_shadow.proofs.{StandsLemmas.{follows-flush}, TotalsLemmas.{kept_counted, flushed_widely}}
use Rattle.pmf_shadow.proofs.shadow.Shadow.flush_counted.Goals as goal

pub returns-clause-follows : goal.returns-clause-follows
returns-clause-follows c = λ place. let lines = c.lines_of-first in
    let part = c.unwritten_lines-from in
    follows-flush place c.args.self.now _ c.args.span _ _ (ap (λ k. k * 64) lines.ensures.first) (ap (λ k. k * 64) lines.ensures.end) lines.ensures.valid.not_empty refl
    (flushed_widely c.args.self.now.bytes c.change.new.self c.args.self.now.fences lines.result.0 lines.result.1 part.result.0 part.result.1 part.ensures.from part.ensures.ordered part.ensures.upto part.ensures.before part.ensures.behind c.in_ok-change.ensures.ok)

pub invariant_of-self : goal.invariant_of-self
invariant_of-self c = record { counted = kept_counted c.args.self.now.bytes c.change.new.self c.args.self.now.fences c.args.self.now.totals c.in_err-change.ensures.unchanged c.args.self.now.counted }

pub invariant_of-self-2 : goal.invariant_of-self-2
invariant_of-self-2 c =
    let lines = c.lines_of-first in
    let part = c.unwritten_lines-from in
    record {
      counted = c.totals_after_flush-totals.ensures c.change.new.self
          (flushed_widely c.args.self.now.bytes c.change.new.self c.args.self.now.fences lines.result.0 lines.result.1 part.result.0 part.result.1 part.ensures.from part.ensures.ordered part.ensures.upto part.ensures.before part.ensures.behind c.in_ok-change.ensures.ok);
    }
