use Rattle.pmf_runs.proofs.{LeafLemmas.{same-none}, FlagLemmas.{changes-plain, plain-bound, joined-plain}}
use Rattle.pmf_runs.proofs.flagged.FlaggedPart.rewrite.Goals as goal

pub returns : goal.returns
returns g c =
    let none = plain-bound g.P.Part.begins c.args.self.now c.args.from c.args.end (c.is_whole.ensures.bounded c.if-is_whole.false) c.requires.from c.requires.end in
    (changes-plain g.S.State.flagged g.P.Part.state c.args.self.now c.args.self.now _ c.args.from c.args.end (g.C.Change.changed c.args.change.now) (same-none _) none none c.rewrite.ensures.0, λ joined. joined-plain g.P.Part.joined _ _ _ none (c.rewrite.ensures.1 joined.but))
