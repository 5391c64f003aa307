use Rattle.std.proofs.{Common.{◌∷◌, ◌++◌, [], sym, ◌∙◌, subst}, lemmas.List.Elements.{Contains-push}}
use Rattle.pmf_ledger.{specs.Gathered.{Gains, IsLedgerOf}, specs.Piles.{ledgers_of}, specs.Together.{AreLedgersOf}, proofs.lemmas.PileLemmas.{agrees-more, gains-some, one-more}}
use Rattle.pmf_ledger.proofs.pile.Pile.begin.Goals as goal

pub invariant_of-self : goal.invariant_of-self
invariant_of-self c = record { filled = λ none. absurd (gains-some c.new-next.result c.replace-last.new.dest c.args.verdict.section (subst (Gains c.new-next.result c.args.verdict.section) (sym c.replace-last.ensures.after) c.in-Ok.ensures.gains) none) }

pub invariant_of-self-2 : goal.invariant_of-self-2
invariant_of-self-2 c = record { filled = λ none. absurd (gains-some c.new-next.result c.replace-last.new.dest c.args.verdict.section (subst (Gains c.new-next.result c.args.verdict.section) (sym c.replace-last.ensures.after) c.in-Ok.ensures.gains) none) }

pub returns-clause-taken : goal.returns-clause-taken
returns-clause-taken c = λ profile set are.
    let old = c.args.self.now in
    let s = c.args.verdict.section in
    let by = (are.by old.last (Contains-push old.full.items old.last)).profile_is in
    let empty = subst (λ p. IsLedgerOf p [] c.new-next.result) (c.profile.ensures ∙ by) c.new-next.ensures.gathers in
    let rest = c.in-Ok-together.ensures.ledgers profile set (subst (λ l. AreLedgersOf profile set (old.full.items ++ l ∷ [])) (sym c.replace-last.ensures.value) are) in
    let more = one-more profile set (c.together.new.full.items ++ c.in-Ok-together.joined ∷ []) rest s c.new-next.result c.take.new.self empty c.in-Ok.ensures.gains c.in-Ok.ensures.gathers
    (agrees-more profile set (ledgers_of old) are s c.requires.absent) in
    subst (λ ls. AreLedgersOf profile (s ∷ set) (ls ++ c.replace-last.new.dest ∷ [])) (sym c.in-Ok-push.ensures.items)
    (subst (λ n. AreLedgersOf profile (s ∷ set) ((c.together.new.full.items ++ c.in-Ok-together.joined ∷ []) ++ n ∷ [])) (sym c.replace-last.ensures.after) more)
