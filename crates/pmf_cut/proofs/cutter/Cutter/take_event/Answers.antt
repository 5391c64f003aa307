use Rattle.std.proofs.{Common.{refl, arith}, lemmas.Option.{slice_get_read}}
use Rattle.pmf_cut.proofs.CuttingLemmas.{happened, placed-within}
use Rattle.pmf_cut.proofs.cutter.Cutter.take_event.Goals as goal

pub returns-then-place-len : goal.returns-then-place-len
returns-then-place-len c = λ ends step records handed text at cuts holds says.
    let within = placed-within step records handed _ _ _ _ _ cuts.has _ c.args.place at in
    absurd (omega (arith, within, c.if-place-len.true, c.len.ensures))

pub returns : goal.returns
returns c = λ ends step records handed text at cuts holds says. record {
  step_is = cuts.step_is;
  has = happened step records handed _ _ _ _ _ cuts.has ends _ c.args.place c.index_mut-section.result.now c.take.new.self c.args.event.now text at (slice_get_read c.args.self.now.sections.items _ c.args.place c.index_mut-section.result.now refl (omega (arith, c.if-place-len.false, c.len.ensures)) c.index_mut-section.ensures.value) c.in-Ok.ensures says (c.in_ok-put-in-Ok.ensures ends text c.args.event.now holds says);
}
