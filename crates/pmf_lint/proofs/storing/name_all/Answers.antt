use Rattle.std.proofs.Common.{List, sym, ap, subst, arith, ◌∙◌}
use Rattle.pmf_event.specs.{declared.name.Name.{Name}, Section.{Trace}}
use Rattle.pmf_query.specs.Standing.{located_in}
use Rattle.pmf_lint.{specs.declared.looking.Looked.{Looked}, specs.StoreNames.{AreNamed}, proofs.StoreNameLemmas.{events_more, sections_more}}
use Rattle.pmf_lint.proofs.storing.name_all.Goals as goal

pub loop-looked-init : goal.loop-looked-init
loop-looked-init c = record { named = c.none-names.ensures (located_in c.args.standing.now) c.args.unasserted; few = omega arith }

pub take-requires : goal.take-requires
take-requires c = (
  located_in c.args.standing.now,
  _,
  c.loop-looked.invariant.named,
  omega (arith, c.loop-looked.invariant.few, c.looked-item.result.few, c.loop-looked-test.true, c.requires.few),
)

pub loop-looked-preserved : goal.loop-looked-preserved
loop-looked-preserved c =
    let value = λ (k : Looked). k.section.value in
    let more = sections_more value c.args.sections.now c.loop-looked.looked-index c.looked-item.result c.loop-looked-test.true c.looked-item.is in
    let located = c.kept_of-located.ensures ∙ ap (λ (n : Name). located_in c.args.standing.now n.number) c.name.ensures ∙ ap (λ (t : Trace). located_in c.args.standing.now t.name.number) c.deref.ensures in
    let few = events_more value c.args.sections.now c.loop-looked.looked-index c.looked-item.result c.loop-looked-test.true c.looked-item.is in
    record {
      named = subst (λ (ts : List Trace). AreNamed (located_in c.args.standing.now) c.args.unasserted ts c.take.new.self) (sym more)
          (c.in_ok-take.ensures (located_in c.args.standing.now) _ c.loop-looked.invariant.named (sym located));
      few = omega (arith, few, c.loop-looked.invariant.few, c.looked-item.result.few);
    }
