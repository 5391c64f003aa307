use Rattle.pmf_places.proofs.PlaceLemmas.{added}
use Rattle.pmf_places.proofs.places.back_up.Goals as goal

pub returns-in_ok-change-in-TxAdd : goal.returns-in_ok-change-in-TxAdd
returns-in_ok-change-in-TxAdd c =
    added c.args.places.now c.change.new.self c.first.result c.end.result c.args.place c.in_ok-change-in-TxAdd.ensures.ok c.in-TxAdd.span c.args.event.now c.in-TxAdd.is
    c.first.ensures.value c.end.ensures.value
