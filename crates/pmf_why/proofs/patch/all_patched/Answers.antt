use Rattle.std.proofs.{Common.{List, [], ◌∷◌, ◌++◌, map, take, sym, ap, subst, ◌∙◌}, lemmas.List.{map-append, take_more}}
use Rattle.std.specs.List.{AllZip}
use Rattle.pmf_event.specs.Section.{Trace}
use Rattle.pmf_why.specs.{declared.patch.Patched.{Patched}, Patching.{IsPatched}}
use Rattle.pmf_why.proofs.PairLemmas.{pair_more}
use Rattle.pmf_why.proofs.patch.all_patched.Goals as goal

pub loop-section-preserved : goal.loop-section-preserved
loop-section-preserved c =
    let i = c.loop-section.section-index in
    let sections = c.args.sections.now in
    let before : List Trace = map (λ s. s.value) (take i sections) in
    let longer = ap (map (λ s. s.value)) (take_more sections i c.section-item.result c.loop-section-test.true
    ∙ ap (λ s. take i sections ++ s ∷ []) (sym c.section-item.is))
    ∙ map-append (λ s. s.value) (take i sections) (c.section-item.result ∷ []) in
    subst (λ (ts : List Trace). AllZip (λ t (one : Patched). IsPatched c.args.asked t one.section.value) ts c.push.new.self.items) (sym longer)
    (subst (λ (made : List Patched). AllZip (λ t (one : Patched). IsPatched c.args.asked t one.section.value) (before ++ c.section-item.result.value ∷ []) made) (sym c.in_ok-push.ensures.items)
    (pair_more (λ t (one : Patched). IsPatched c.args.asked t one.section.value) before c.loop-section.cures.items c.section-item.result.value c.in_ok-cure.cure c.loop-section.invariant c.in_ok-cure.ensures))
