use Rattle.std.{proofs.Common.{◌≡◌, subst, get_or, rules, Equal}, proofs.lemmas.List.Sorted.{answers_always}}
use Rattle.pmf_ledger.proofs.lemmas.NameLemmas.{compared}
use Rattle.pmf_farm.{specs.Rolls.{Slotted}, proofs.lemmas.RollLemmas.{keeps-found, keeps-none, name_in}}
use Rattle.pmf_farm.proofs.roll.keep.Goals as goal

pub returns-in-Ok : goal.returns-in-Ok
returns-in-Ok c =
    let roll = c.args.roll.now in
    let found = c.in-Ok.ensures.position name_in (answers_always _ _ _ (λ f a r g h. search rules)) in
    keeps-found c.args.verdict roll c.in-Ok.place c.index-roll-place.result c.keep.new.self c.requires c.in-Ok.ensures.bound
    (subst (λ n. (d : Slotted) → compared (name_in (get_or roll c.in-Ok.place d)) n ≡ Equal) c.name.ensures found)
    c.keep.ensures

pub returns-in_default : goal.returns-in_default
returns-in_default c =
    let missing = c.in_default.ensures.position name_in (answers_always _ _ _ (λ f a r g h. search rules)) in
    keeps-none c.args.verdict c.args.roll.now c.in_default.field-0 c.name.result c.name.ensures c.requires missing
