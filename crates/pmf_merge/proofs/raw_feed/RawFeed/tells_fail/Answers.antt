use Rattle.std.proofs.Common.{◌≡◌, ◌∙◌, ◌||◌, None, Some, option_map, sym, ap, subst, take}
use Rattle.pmf_ledger.specs.RawText.{IsFirst, RawBlock, raw_of, tells_fail}
use Rattle.pmf_merge.specs.RawFeeding.{ComesNext, rest_of}
use Rattle.pmf_merge.proofs.raw_feed.RawFeed.tells_fail.Goals as goal

pub returns-then-before : goal.returns-then-before
returns-then-before c = λ start left told v head is. sym (ap (λ b. b || tells_fail v.bytes) c.if-before.true)

pub returns-in-Some : goal.returns-in-Some
returns-in-Some c = λ start left told v head is.
    let found = c.in-Some.found in let rest = rest_of c.args.self.now.unread in
    let comes = subst (ComesNext left told rest) c.in-Some.is head.next in
    let both : Some (raw_of rest found) ≡ Some v = ap (option_map (raw_of rest)) (sym c.in-Some.is) ∙ is in let same : raw_of rest found ≡ v = cc in
    c.tells_fail.ensures (subst (λ xs. IsFirst xs found) (sym c.rest.ensures) comes.0) ∙ ap (λ xs. tells_fail (take found.taken xs)) c.rest.ensures ∙ ap (λ (b : RawBlock). tells_fail b.bytes) same
    ∙ sym (ap (λ b. b || tells_fail v.bytes) c.if-before.false)

pub returns-in-None : goal.returns-in-None
returns-in-None c = λ start left told v head is.
    let bad : ◌≡◌ None (Some v) = ap (option_map (raw_of (rest_of c.args.self.now.unread))) (sym c.in-None.is) ∙ is in cc
