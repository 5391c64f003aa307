use Rattle.std.proofs.{Common.{[], ◌∷◌, ◌≤◌, length, arith, length-append, sym, ◌∙◌, ap, subst, All}, lemmas.List.Elements.{All-append, All-cons, All-nil}}
use Rattle.pmf_event.specs.{Section.{IsValidEvent}, declared.section.TheConstants.{EVENT_LIMIT}}
use Rattle.pmf_event.proofs.section.Section.push.Goals as goal

pub invariant_of-self-2 : goal.invariant_of-self-2
invariant_of-self-2 c =
    let long = ap length c.in_ok-push.ensures.ok ∙ length-append c.self.inside.events (c.args.event ∷ []) in
    let before = c.self.invariant.0 in
    let short : length c.push.new.self ≤ EVENT_LIMIT = omega (arith, long, before, c.len.ensures.value, c.if-len-eq-EVENT_LIMIT.false) in (
      short,
      subst (All IsValidEvent) (sym c.in_ok-push.ensures.ok) (All-append IsValidEvent c.self.inside.events (c.args.event ∷ []) c.self.invariant.1 (All-cons IsValidEvent c.args.event [] c.has_valid_spans.ensures (All-nil IsValidEvent))),
    )
