use Rattle.std.proofs.Common.{ap, ◌∙◌}
use Rattle.pmf_event.specs.Line.{line_of_byte}
use Rattle.pmf_cause.{specs.Cause.{write_back_after}, specs.Later.{asked}, specs.Watching.{has_line}, proofs.WatchLemmas.{asks_line}}
use Rattle.pmf_cause.proofs.later.Later.behind.Goals as goal

pub returns-clause-found : goal.returns-clause-found
returns-clause-found c = λ asks.
    let es = c.args.events.now in
    let f = c.args.row.now.finding in
    let watch = c.args.watch.now in
    let byte = c.asked.ensures in
    c.written_back.ensures watch es c.in_ok-go_to.ensures.later (ap (has_line watch.stored) byte ∙ asks_line watch f c.requires.asks asks)
    ∙ ap (λ b. write_back_after es (line_of_byte b) c.go_to.new.self.place) byte
    ∙ ap (write_back_after es (line_of_byte (asked f))) c.in_ok-go_to.ensures.place
