use Rattle.std.proofs.{Common.{rules, ◌≡◌, ◌<◌, length, get_or, refl, subst}, lemmas.Option.{slice_get_read}}
use Rattle.pmf_world.{specs.Floors.{FloorValue, IsSent}, proofs.lemmas.FloorLemmas.{is-sent}}
use Rattle.pmf_world.proofs.floor.Floor.sent.Goals as goal

pub returns : goal.returns
returns c =
    let there : c.args.message < length c.self.inside.messages.items = search rules in
    let read : c.index.result.now ≡ get_or c.self.inside.messages.items c.args.message c.index.result.now = search rules in
    let at = slice_get_read c.self.inside.messages.items _ c.args.message c.index.result.now refl there read in
    subst (λ (f : FloorValue). IsSent f.profile f.sections f.farm.messages c.args.message c.index.result.now.verdict) c.self.view_is
    (is-sent _ _ _ _ c.self.inside.messages.items c.args.message c.index.result.now at c.self.invariant)
