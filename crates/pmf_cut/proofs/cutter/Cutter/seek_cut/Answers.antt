use Rattle.std.proofs.{Common.{refl, subst, arith, Option, IfSome}, lemmas.Option.{slice_get_read}}
use Rattle.pmf_cut.{specs.declared.section.NextPart.{NextPart}, specs.Cutting.{BeginsNext}, proofs.CuttingLemmas.{get_set, unchanged}}
use Rattle.pmf_cut.proofs.cutter.Cutter.seek_cut.Goals as goal

pub returns-in_ok-cut-in-Ok-Some : goal.returns-in_ok-cut-in-Ok-Some
returns-in_ok-cut-in-Ok-Some c = λ step records handed number at cuts.
    let section = c.index_mut-section.result.now in
    let is = slice_get_read c.args.self.now.sections.items _ c.args.place section refl (omega (arith, c.if-place-len.false, c.len.ensures)) c.index_mut-section.ensures.value in
    c.in_ok-cut-in-Ok-Some.ensures c.next_part.new.self (get_set c.args.self.now.sections.items c.args.place section c.next_part.new.self is)
    (subst (λ (o : Option NextPart). IfSome o (BeginsNext c.next_part.new.self)) c.in-Ok-Some.field-0-is c.in-Ok-Some.ensures.begins) step records handed number at
    (record { step_is = cuts.step_is; has = unchanged step records handed _ _ _ _ _ cuts.has number c.args.place section at is c.next_part.new.self c.in-Ok-Some.ensures.same })

pub returns-in-Ok-None : goal.returns-in-Ok-None
returns-in-Ok-None c = λ step records handed number at cuts.
    let section = c.index_mut-section.result.now in
    let is = slice_get_read c.args.self.now.sections.items _ c.args.place section refl (omega (arith, c.if-place-len.false, c.len.ensures)) c.index_mut-section.ensures.value in
    (record { step_is = cuts.step_is; has = unchanged step records handed _ _ _ _ _ cuts.has number c.args.place section at is c.next_part.new.self c.in-Ok-None.ensures.same }, at)
