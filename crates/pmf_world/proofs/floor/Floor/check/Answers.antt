use Rattle.std.proofs.{Common.{rules, ◌≡◌, ◌<◌, length, map, ap, subst, sym, ◌∙◌}, lemmas.List.{length-map}}
use Rattle.pmf_verdict.specs.Checked.{checked_by}
use Rattle.pmf_world.{specs.Floors.{FloorValue, verdict_at}, proofs.lemmas.FloorLemmas.{is-worker, section-is}}
use Rattle.pmf_world.specs.declared.doing.Doing.TheVariants as doing
use Rattle.pmf_world.proofs.floor.Floor.check.Goals as goal

pub index-requires : goal.index-requires
index-requires c =
    let here : c.args.section < length (map (λ s. s.value) c.self.inside.sections.items) =
    (is-worker _ _ _ c.self.inside.workers.items _ c.args.worker (doing.HasTask c.args.section) (search rules) c.self.invariant).2 in
    subst (λ n. c.args.section < n) (sym c.self.inside.sections.ok.0) (subst (λ n. c.args.section < n) (length-map c.self.inside.sections.items (λ s. s.value)) here)

pub returns-in-Ok : goal.returns-in-Ok
returns-in-Ok c =
    let here : c.args.section < length (map (λ s. s.value) c.self.inside.sections.items) =
    (is-worker _ _ _ c.self.inside.workers.items _ c.args.worker (doing.HasTask c.args.section) (search rules) c.self.invariant).2 in
    let read : c.in_ok-section.section.value ≡ c.index.result.now.value = search rules in
    let is : c.in-Ok.verdict ≡ checked_by c.self.inside.profile c.in_ok-section.section.value = search rules in
    let section = section-is (λ s. s.value) c.self.inside.sections.items c.args.section c.index.result.now (search rules) (subst (λ n. c.args.section < n) (length-map c.self.inside.sections.items (λ s. s.value)) here) in
    subst (λ (f : FloorValue). c.in-Ok.verdict ≡ verdict_at f.profile f.sections c.args.section) c.self.view_is (is ∙ ap (checked_by c.self.inside.profile) (read ∙ section))
