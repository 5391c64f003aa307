use Rattle.pmf_query.proofs.UsualLemmas.{happens}
use Rattle.pmf_query.proofs.standing.Walked.pass_sound.Goals as goal

pub pass_event-requires-clause-event : goal.pass_event-requires-clause-event
pass_event-requires-clause-event c = happens c.args.found.text.now _ c.in-Some.ensures c.requires.sound
