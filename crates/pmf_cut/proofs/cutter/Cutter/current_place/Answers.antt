use Rattle.std.{proofs.Common.{nat_cmp, ap, ◌∙◌}, specs.BTreeMap.{get}}
use Rattle.pmf_storelog.specs.LogText.{current_of}
use Rattle.pmf_cut.proofs.CuttingLemmas.{current-none, current-told}
use Rattle.pmf_cut.proofs.cutter.Cutter.current_place.Goals as goal

pub returns-in_ok-place-in-None : goal.returns-in_ok-place-in-None
returns-in_ok-place-in-None c = λ step records handed cuts.
    let found = c.in_ok-place-in-None.ensures step records handed cuts in
    let at = ap (get nat_cmp c.place_of.new.self.places) (current-none (get nat_cmp c.args.self.now.places) (current_of records) _ c.in-None.is cuts.has.current_is) ∙ found.1 in
    (record { step_is = found.0.step_is; has = current-told step records handed _ _ _ _ _ found.0.has _ at }, at)
