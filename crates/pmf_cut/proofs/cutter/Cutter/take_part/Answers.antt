use Rattle.pmf_cut.proofs.CuttingLemmas.{more_files, cut_as}
use Rattle.std.{proofs.Common.{nat_cmp, ap, ◌∙◌}, specs.BTreeMap.{get}}
use Rattle.pmf_cut.proofs.cutter.Cutter.take_part.Goals as goal

pub returns-in_ok-begin_file : goal.returns-in_ok-begin_file
returns-in_ok-begin_file c = λ ends step records handed cuts parts.
    let cut = c.in_ok-copy_part.ensures ends step records handed cuts parts in
    let file = c.in_ok-begin_file.ensures in
    record {
      step_is = file.same.step_is ∙ cut.step_is;
      has = cut_as ends step _ handed _ _ _ _ _ _ _ _ _ file.same.current_is (ap (get nat_cmp) file.same.places) (ap (get nat_cmp) file.names) (ap (λ list. list.items) file.same.sections)
          (more_files ends step _ handed _ _ _ _ _ cut.has _ file.more);
    }
