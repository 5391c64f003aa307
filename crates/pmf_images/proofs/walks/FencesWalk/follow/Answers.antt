use Rattle.std.proofs.Common.{if◌then◌else◌, ◌∙◌, ap}
use Rattle.pmf_event.specs.Store.{is_fence}
use Rattle.pmf_places.proofs.PlaceLemmas.{last_next}
use Rattle.pmf_images.proofs.walks.FencesWalk.follow.Goals as goal

pub returns-clause-keeps : goal.returns-clause-keeps
returns-clause-keeps c = λ es p here at_place was.
    last_next c.args.self.now.last _ c.args.place is_fence es p c.args.event.now here at_place
    (c.place_if-self.ensures ∙ ap (λ v. if v then c.args.place else c.args.self.now.last) c.is_fence.ensures) was
