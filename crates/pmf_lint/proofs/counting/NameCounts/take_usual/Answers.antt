use Rattle.std.proofs.Common.{refl, sym, ap, ◌∙◌, List, ℕ, map}
use Rattle.pmf_lint.{specs.Naming.{counting}, proofs.NamingLemmas.{tallies_known}, proofs.UsualCountLemmas.{notes_same, taken}}
use Rattle.pmf_lint.proofs.counting.NameCounts.take_usual.Goals as goal

pub returns : goal.returns
returns c = λ records tallies.
    tallies_known c.args.self.now _ records tallies c.args.text.now refl (c.count_known.ensures ∙ ap (λ (n : List ℕ). map (counting n) c.args.self.now.known.items) (sym c.requires.usual.named))
    (notes_same c.args.self.now.notes records c.args.text.now c.args.index c.requires.usual tallies.notes) (taken c.args.text.now c.args.index c.requires.usual) refl
