use Rattle.std.proofs.{Common.{◌≡◌, refl, sym, ◌∙◌, subst, arith}, lemmas.Option.{slice_get_read}}
use Rattle.pmf_cut.{specs.declared.section.Cutting.{Cutting}, specs.Cutting.{GoesOnAs}, proofs.CuttingLemmas.{some_apart}}
use Rattle.pmf_cut.proofs.cutter.Cutter.begin.Goals as goal

pub returns-in_ok-go_on : goal.returns-in_ok-go_on
returns-in_ok-go_on c = λ section is.
    let its : c.index_mut.result.now ≡ section =
    some_apart _ _ (sym (slice_get_read c.args.self.now.sections.items _ c.args.place c.index_mut.result.now refl (omega (arith, c.if-place-len.true, c.len.ensures)) c.index_mut.ensures.value) ∙ is) in
    record {
      file = c.newest-file.result;
      there = c.newest-file.ensures;
      says = rw c.deref.ensures.value at c.in_ok-say.ensures;
      renewed = c.go_on.new.self;
      has = subst (λ (s : Cutting). GoesOnAs s c.go_on.new.self c.args.name c.newest-file.result c.args.next.part) its c.in_ok-go_on.ensures;
      sections = refl;
      places = refl;
      names = refl;
      current_is = refl;
      step_is = refl;
    }
