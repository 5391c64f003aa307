use Rattle.std.proofs.Common.{sym, false}
use Rattle.pmf_shadow.proofs.AskLemmas.{first_behind, first_front}
use Rattle.pmf_shadow.proofs.front.ByteMap.first_on.Goals as goal

pub returns-in-None : goal.returns-in-None
returns-in-None g c = first_behind c.args.self.now (g.T.Test.passes c.args.test.now) c.args.first c.args.end c.first_where.result c.requires (sym c.in-None.ensures.value) c.first_where.ensures

pub returns-in-Some : goal.returns-in-Some
returns-in-Some g c =
    first_front c.args.self.now (g.T.Test.passes c.args.test.now) c.in-Some.line.now _ c.args.first c.args.end c.first_where-in-Some.result c.requires (sym c.in-Some.ensures.value)
    (c.first_where-in-Some.ensures (record { last = 0; opens = 0; written_back = 0; is_stored = false; is_written_back = false; excluded = false }))
