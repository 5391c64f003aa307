use Rattle.std.proofs.{Common.{length, refl}, lemmas.Option.{slice_get_read}}
use Rattle.pmf_event.proofs.PackedLemmas.{one_of}
use Rattle.pmf_event.proofs.events.put_behind.Goals as goal

pub behind-requires-clause-within : goal.behind-requires-clause-within
behind-requires-clause-within c = one_of _ c.args.more.now c.loop-one.one-index c.one-item.result c.requires.within (slice_get_read c.args.more.now (length c.args.more.now) c.loop-one.one-index c.one-item.result refl c.loop-one-test.true c.one-item.is)
