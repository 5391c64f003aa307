use Rattle.std.proofs.{Common.{◌≡◌, get_or, sym, ◌∙◌, ap, subst, arith, inl, inr}, lemmas.Bool.{cases_lt}, lemmas.List.{get_or_read}}
use Rattle.pmf_ledger.specs.{LedgerValue.{LedgerValue}, Places.{LacksName}}
use Rattle.pmf_ledger.proofs.pile.standing_in.Goals as goal

pub loop-i-preserved : goal.loop-i-preserved
loop-i-preserved c =
    let ledgers = c.args.ledgers.now in
    let name = c.args.section.now.name in
    record {
      absent = λ k d within. elim (cases_lt k c.loop-i.i) [
        | inl before ↦ c.loop-i.invariant.absent k d before
        | inr past ↦
            let same : k ≡ c.loop-i.i = omega (arith, within, past) in
            let read = get_or_read ledgers c.loop-i.i c.index-ledgers-i.result (omega (arith, c.loop-i-test.true)) c.index-ledgers-i.is d in
            subst (λ (m : LedgerValue). LacksName m.sections name) (read ∙ sym (ap (λ n. get_or ledgers n d) same)) c.in-Absent.ensures.1
      ];
    }

pub returns : goal.returns
returns c = λ l found. subst (λ (m : LedgerValue). LacksName m.sections c.args.section.now.name) found.2 (c.loop-i.invariant.absent found.0 l (let inside = found.1 in omega (arith, inside, c.loop-i-test.false)))
