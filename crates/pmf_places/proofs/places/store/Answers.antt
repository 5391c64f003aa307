use Rattle.pmf_places.proofs.PlaceLemmas.{stored}
use Rattle.pmf_places.proofs.places.store.Goals as goal

pub returns-in_ok-change-in-Store : goal.returns-in_ok-change-in-Store
returns-in_ok-change-in-Store c =
    stored c.args.places.now c.change.new.self c.first.result c.end.result c.args.place c.in_ok-change-in-Store.ensures.ok c.in-Store.span c.args.event.now c.in-Store.is
    c.first.ensures.value c.end.ensures.value
