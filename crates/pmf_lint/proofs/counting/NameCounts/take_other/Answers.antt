use Rattle.std.proofs.Common.{sym, ap, subst, ◌∙◌, refl, List, [], ◌∷◌, ◌++◌, map, ℕ}
use Rattle.pmf_lint.{specs.Counting.{Lists}, specs.Naming.{counting, skipped_names}, proofs.NamingLemmas.{tallies_known, tallies_skipped}}
use Rattle.pmf_lint.proofs.counting.NameCounts.take_other.Goals as goal

pub returns-in_ok-take : goal.returns-in_ok-take
returns-in_ok-take c = λ records tallies.
    tallies_skipped c.args.self.now _ records tallies c.args.text.now refl (c.count_name.ensures ∙ ap (λ (n : List ℕ). map (counting n) c.args.self.now.known.items) c.name_of-name.ensures)
    (c.and-self.ensures records tallies.notes) (sym c.is_skipped-skipped.ensures ∙ c.if-skipped.true)
    (subst (λ (n : List ℕ). Lists c.take.new.self (skipped_names records ++ n ∷ [])) c.name_of-name.ensures (c.in_ok-take.ensures (skipped_names records) tallies.skipped))

pub returns-else-skipped : goal.returns-else-skipped
returns-else-skipped c = λ records tallies.
    tallies_known c.args.self.now _ records tallies c.args.text.now refl (c.count_name.ensures ∙ ap (λ (n : List ℕ). map (counting n) c.args.self.now.known.items) c.name_of-name.ensures)
    (c.and-self.ensures records tallies.notes) (sym c.is_skipped-skipped.ensures ∙ c.if-skipped.false) refl
