use Rattle.std.proofs.Common.{refl}
use Rattle.pmf_query.proofs.StandingLemmas.{on_ok, walked_event}
use Rattle.pmf_query.proofs.standing.Walked.pass_event.Goals as goal

pub returns-clause-walked : goal.returns-clause-walked
returns-clause-walked c = λ bytes start found walked.
    on_ok c.add.result (walked_event bytes start c.args.found.offset c.args.found.text.now c.args.found.next found c.args.self.now walked c.requires.event.0 _ c.requires.event.1 refl refl _ refl refl refl) c.add.ensures
