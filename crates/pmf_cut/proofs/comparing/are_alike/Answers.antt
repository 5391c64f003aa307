use Rattle.std.proofs.Common.{◌∙◌, sym, subst, arith}
use Rattle.pmf_cut.{specs.Comparing.{Compared, Extends}, proofs.ComparingLemmas.{compared-more}}
use Rattle.pmf_cut.proofs.comparing.are_alike.Goals as goal

pub loop-at-preserved : goal.loop-at-preserved
loop-at-preserved c =
    let a = c.open_from-a_end in
    let b = c.standing_from-b_end in
    let end = c.min-end.result in
    let least = c.min-end.ensures in
    let a_end = a.ensures.within in
    let a_far = a.ensures.further in
    let b_far = b.ensures.further in (
      omega arith,
      λ fs m gs q one other.
          compared-more fs m gs q a.result.0 b.result.0 c.loop-at.at end
          (λ z low high. a.ensures.opened (λ k. k) fs m one z low (omega arith))
          (λ z low high. b.ensures.stands (λ k. k) gs q other z low (omega arith))
          (sym c.stand_alike.ensures ∙ c.if-not-stand_alike.false)
          c.loop-at.seen.items c.extend.new.seen.items (omega arith) (c.loop-at.invariant.1 fs m gs q one other)
          (subst (λ o. Extends c.loop-at.seen.items c.extend.new.seen.items o c.loop-at.at end) c.places.ensures (c.in_ok-extend.ensures c.if-not-branch.false)),
    )

pub returns : goal.returns
returns c = λ yes fs m gs q one other.
    let done = c.loop-at.invariant.0 in
    let compared : Compared fs m gs q c.loop-at.seen.items 9223372036854775808 = subst (λ k. Compared fs m gs q c.loop-at.seen.items k) (omega arith) (c.loop-at.invariant.1 fs m gs q one other) in compared.below
