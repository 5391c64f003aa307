use Rattle.std.proofs.Common.{arith, sym, ap, ◌∙◌}
use Rattle.pmf_event.{specs.Line.{line_of_byte}, specs.Transactions.{is_outside}, proofs.PlacesLemmas.{greatest-bound}}
use Rattle.pmf_cause.{specs.Cause.{write_back_after}, specs.Watching.{has_line}, proofs.JudgingLemmas.{need_asks, need_byte}, proofs.WatchLemmas.{asks_line}}
use Rattle.pmf_cause.proofs.past.Past.cause.Goals as goal

pub misplaced-requires : goal.misplaced-requires
misplaced-requires c =
    let is = c.requires.past.marks.outside in
    let bound = greatest-bound (is_outside c.args.events.now) c.args.self.now.place in
    let within = c.requires.within in
    let few = c.requires.few in omega arith

pub not_durable-requires-clause-watched : goal.not_durable-requires-clause-watched
not_durable-requires-clause-watched c =
    let es = c.args.events.now in
    let p = c.args.self.now.place in
    let is = sym (c.need.ensures es c.requires.past c.requires.asks) ∙ c.in-Some.is in
    ap (has_line c.args.self.now.watch.stored) (need_asks es p c.args.finding c.in-Some.need is).0
    ∙ asks_line c.args.self.now.watch c.args.finding c.requires.asks (need_byte es p c.args.finding c.in-Some.need is)

pub not_durable-requires-clause-behind : goal.not_durable-requires-clause-behind
not_durable-requires-clause-behind c =
    let es = c.args.events.now in
    let p = c.args.self.now.place in
    let is = sym (c.need.ensures es c.requires.past c.requires.asks) ∙ c.in-Some.is in
    c.requires.behind (need_byte es p c.args.finding c.in-Some.need is)
    ∙ ap (λ b. write_back_after es (line_of_byte b) p) (sym (need_asks es p c.args.finding c.in-Some.need is).0)

pub not_durable-requires-clause-fences : goal.not_durable-requires-clause-fences
not_durable-requires-clause-fences c =
    let es = c.args.events.now in
    let p = c.args.self.now.place in
    c.requires.fences (need_byte es p c.args.finding c.in-Some.need (sym (c.need.ensures es c.requires.past c.requires.asks) ∙ c.in-Some.is))
