use Rattle.std.proofs.Common.{◌-◌, get_or, sym, ◌∙◌, ap, arith}
use Rattle.pmf_event.specs.Line.{line_of_byte}
use Rattle.pmf_cause.{specs.Cause.{lack_by, not_durable}, proofs.JudgingLemmas.{by_is, lack_is}, proofs.LaterLemmas.{write_back-bound}}
use Rattle.pmf_cause.proofs.past.Past.not_durable.Goals as goal

pub overflow_sub-fence : goal.overflow_sub-fence
overflow_sub-fence c =
    let es = c.args.events.now in
    let need = c.args.need in
    let is = by_is es c.args.self.now.place need c.last_store.result.written_back c.args.written_back c.place_or-by.result c.requires.within c.requires.last c.place_or-by.ensures
    (c.last_store.ensures.written_back es c.requires.past c.requires.watched) c.requires.behind in
    let bound = write_back-bound es (line_of_byte need.byte) need.last in omega arith

pub returns-in-Some : goal.returns-in-Some
returns-in-Some c =
    let es = c.args.events.now in
    let need = c.args.need in
    let is = by_is es c.args.self.now.place need c.last_store.result.written_back c.args.written_back c.place_or-by.result c.requires.within c.requires.last c.place_or-by.ensures
    (c.last_store.ensures.written_back es c.requires.past c.requires.watched) c.requires.behind in
    ap (not_durable need) (sym c.in-Some.is ∙ c.lack_by.ensures ∙ ap (λ n. lack_by need.last need.due c.place_or-by.result (get_or c.args.fences.now (n - c.place_or-by.result) 0)) c.len.ensures.value ∙ lack_is es need c.place_or-by.result c.args.fences.now is c.requires.fences)

pub returns-in-None : goal.returns-in-None
returns-in-None c =
    let es = c.args.events.now in
    let need = c.args.need in
    let is = by_is es c.args.self.now.place need c.last_store.result.written_back c.args.written_back c.place_or-by.result c.requires.within c.requires.last c.place_or-by.ensures
    (c.last_store.ensures.written_back es c.requires.past c.requires.watched) c.requires.behind in
    ap (not_durable need) (sym c.in-None.is ∙ c.lack_by.ensures ∙ ap (λ n. lack_by need.last need.due c.place_or-by.result (get_or c.args.fences.now (n - c.place_or-by.result) 0)) c.len.ensures.value ∙ lack_is es need c.place_or-by.result c.args.fences.now is c.requires.fences)
