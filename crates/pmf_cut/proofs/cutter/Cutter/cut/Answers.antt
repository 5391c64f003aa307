use Rattle.std.{proofs.{Common.{◌≡◌, ◌+◌, nat_cmp, refl, sym, ap, ◌∙◌, subst, arith, set, slice_get}, lemmas.Option.{slice_get_read}}, specs.BTreeMap.{get}}
use Rattle.pmf_cut.{specs.declared.section.Cutting.{Cutting}, specs.Cutting.{IsNamed}, proofs.CuttingLemmas.{cut_as, renewed, some_apart}}
use Rattle.pmf_cut.proofs.cutter.Cutter.cut.Goals as goal

pub returns : goal.returns
returns c = λ section is begins step records handed number at cuts.
    let named = c.in_ok-name.ensures in
    let part = c.in_ok-begin.ensures section (ap (λ list. slice_get list.items c.args.place) named.same.sections ∙ is) in
    let its : c.index-section.result.now ≡ section =
    some_apart _ _ (sym (slice_get_read c.args.self.now.sections.items _ c.args.place c.index-section.result.now refl (omega (arith, c.if-place-len.false, c.len.ensures)) c.index-section.ensures) ∙ is) in
    let above : c.in-Some.name ≡ section.name + step = omega (arith, c.in-Some.ensures, cuts.step_is, ap (λ (s : Cutting). s.name) its) in (
      record {
        step_is = part.step_is ∙ named.same.step_is ∙ cuts.step_is;
        has =
            cut_as _ step records handed _ _ _ _ _ _ _ _ _ (part.current_is ∙ named.same.current_is) (ap (get nat_cmp) (part.places ∙ named.same.places)) (ap (get nat_cmp) part.names) (part.sections ∙ ap (λ list. set list.items c.args.place part.renewed) named.same.sections)
            (renewed step records handed _ _ _ _ _ cuts.has number c.args.place section at is c.name.new.self.outputs _ _ c.in-Some.name part.file part.renewed c.args.next.part c.args.next.head.items
            (subst (λ (s : Cutting). IsNamed (get nat_cmp c.args.self.now.names) (get nat_cmp c.name.new.self.names) c.in-Some.name s.number) its named.named) above begins.behind begins.none_waits part.has named.more part.there part.says);
      },
      ap (λ places. get nat_cmp places number) (part.places ∙ named.same.places) ∙ at,
    )
