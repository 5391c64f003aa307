use Rattle.std.proofs.Common.{rules, List, ◌≡◌, map, sym, ap, subst, ◌∙◌}
use Rattle.std.specs.List.{AllZip}
use Rattle.pmf_event.specs.Section.{Trace}
use Rattle.pmf_why.specs.{declared.patch.Patched.{Patched}, Patching.{IsPatched}}
use Rattle.pmf_why.proofs.PatchLemmas.{pair_mapped}
use Rattle.pmf_why.proofs.patch.patch_log.Goals as goal

pub returns-then-are_sections : goal.returns-then-are_sections
returns-then-are_sections c =
    let cures = c.in_ok-cures.cures.items in
    let becomes : Patched → Trace = λ (one : Patched). one.section.value in
    let same : map becomes cures ≡ c.in-Ok.again.sections =
    ap (λ (xs : List Patched). map becomes xs) (sym c.deref-then-skipped.ensures.value) ∙ c.are_sections.ensures c.if-are_sections.true ∙ c.sections-then-skipped.ensures in
    let zip = subst (λ (ts : List Trace). AllZip (λ t (one : Patched). IsPatched c.args.asked t one.section.value) ts cures) c.sections.ensures c.in_ok-cures.ensures in
    record {
      patched = c.in-Ok.again;
      reads = (search rules);
      sections = subst (λ (ts : List Trace). AllZip (IsPatched c.args.asked) c.args.read.now.sections ts) same (pair_mapped (IsPatched c.args.asked) becomes c.args.read.now.sections cures zip);
      skipped = (search rules);
    }
