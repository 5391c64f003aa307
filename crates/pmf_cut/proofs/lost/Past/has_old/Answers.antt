use Rattle.std.proofs.Common.{sym, ◌∙◌, arith}
use Rattle.pmf_cut.{proofs.LostLemmas.{none-old-run}}
use Rattle.pmf_cut.proofs.lost.Past.has_old.Goals as goal

pub loop-byte-preserved : goal.loop-byte-preserved
loop-byte-preserved c =
    let lies = c.in-Some.ensures.lies in
    let from = lies.0 in let below = lies.1 in let further = c.standing_from-until.ensures.further in let at = c.loop-byte.invariant.1 in (
      c.standing_from-until.ensures.within,
      omega arith,
      none-old-run c.args.self.now c.args.shadow.now c.first-first.result c.loop-byte.first c.in-Some.byte c.standing_from-until.result.1 c.standing_from-until.result.0
          c.in-Some.ensures.before c.standing_from-until.ensures.stands (sym c.is_unknown.ensures ∙ c.if-is_unknown.false) c.loop-byte.invariant.2,
    )

pub returns : goal.returns
returns c = grind arith
