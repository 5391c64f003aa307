use Rattle.std.proofs.Common.{sym, false}
use Rattle.pmf_shadow.proofs.AskLemmas.{least_behind, least_front}
use Rattle.pmf_shadow.proofs.front.ByteMap.least_on.Goals as goal

pub returns-in-None : goal.returns-in-None
returns-in-None g c = least_behind c.args.self.now (g.K.Key.key c.args.key.now) c.args.first c.args.end c.least_key.result c.requires (sym c.in-None.ensures.value) c.least_key.ensures

pub returns-in-Some : goal.returns-in-Some
returns-in-Some g c =
    least_front c.args.self.now (g.K.Key.key c.args.key.now) c.in-Some.line.now _ c.args.first c.args.end c.least_key-in-Some.result c.requires (sym c.in-Some.ensures.value)
    (c.least_key-in-Some.ensures (record { last = 0; opens = 0; written_back = 0; is_stored = false; is_written_back = false; excluded = false }))
