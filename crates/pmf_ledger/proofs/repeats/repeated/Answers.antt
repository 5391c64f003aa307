use Rattle.std.proofs.Common.{arith, refl, length, ◌<◌, ◌≡◌, ◌+◌, ◌-◌, ◌∙◌, sym, ap, subst}
use Rattle.pmf_event.specs.declared.name.Name.{Name}
use Rattle.pmf_ledger.{specs.Repeats.{IsLeastTwiceIn}, proofs.lemmas.RepeatLemmas.{least-twice, own-names, RisesTo, name_at}}
use Rattle.pmf_ledger.proofs.repeats.repeated.Goals as goal

pub returns-then-is_same : goal.returns-then-is_same
returns-then-is_same c =
    let names = c.args.names.now in let next = c.loop-next.next in let d : Name = record { run = 0; number = 0 } in
    let up : next ≡ next - 1 + 1 = let from = c.loop-next.auto.next in omega (arith, from) in subst (λ k. IsLeastTwiceIn names (name_at names d k)) (sym up)
    (least-twice names d (next - 1) c.requires.sorted (subst (λ k. RisesTo k names) up c.loop-next.invariant)
    (subst (λ k. k < length names) up c.loop-next-test.true) (c.if-is_same.ensures.0 refl ∙ ap (name_at names d) up))

pub returns : goal.returns
returns c = own-names c.args.names.now (λ k d inside. c.loop-next.invariant k d (let past = c.loop-next-test.false in omega (arith, past, inside)))
