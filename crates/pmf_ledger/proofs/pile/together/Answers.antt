use Rattle.std.proofs.{Common.{◌∷◌, ◌++◌, [], List, length, Contains, sym, ap, subst}, lemmas.List.Elements.{Contains-push}}
use Rattle.pmf_ledger.{specs.LedgerValue.{LedgerValue}, specs.Together.{AreLedgersOf}, proofs.lemmas.MergingLemmas.{none_of_empty}, proofs.lemmas.PileLemmas.{last-joined}}
use Rattle.pmf_ledger.proofs.pile.together.Goals as goal

pub loop-full-preserved : goal.loop-full-preserved
loop-full-preserved c = record {
  ledgers = λ profile set are.
      last-joined profile set c.take_last.new.self.items c.take_last.result c.loop-full.joined c.in-Ok.both
      (subst (λ ls. AreLedgersOf profile set (ls ++ c.loop-full.joined ∷ [])) c.take_last.ensures.items (c.loop-full.invariant.ledgers profile set are)) c.in-Ok.ensures.unites c.in-Ok.ensures.gathers;
  some = λ none.
      let empty = c.loop-full.invariant.some none in
      absurd (none_of_empty c.loop-full.full.items c.take_last.result (ap (λ (ls : List LedgerValue). length ls) empty)
      (subst (λ ls. Contains ls c.take_last.result) (sym c.take_last.ensures.items) (Contains-push c.take_last.new.self.items c.take_last.result)));
}
