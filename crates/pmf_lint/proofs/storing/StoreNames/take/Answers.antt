use Rattle.std.proofs.Common.{length, refl, sym, ap, subst, arith, ◌∙◌}
use Rattle.pmf_lint.{specs.Leaving.{leaves_unfenced, leaves_unwritten}, specs.Marks.{Marks}, specs.StoreNames.{is_asked, names_over}, proofs.LeavingLemmas.{unwritten_marks}, proofs.StoreNameLemmas.{few_over, named_more}}
use Rattle.pmf_lint.proofs.storing.StoreNames.take.Goals as goal

pub take_marked-requires : goal.take_marked-requires
take_marked-requires c =
    let looked = c.args.looked.now in
    let are = unwritten_marks looked.section.value.events looked.left looked.are_left in
    let long = ap (λ bs. length bs) c.deref.ensures.value ∙ are.long in (
      names_over c.requires.0 leaves_unwritten c.requires.1,
      c.requires.2.unwritten,
      omega (arith, c.requires.3, few_over c.requires.0 leaves_unwritten c.requires.1, long),
    )

pub take_marked-requires-2 : goal.take_marked-requires-2
take_marked-requires-2 c =
    let looked = c.args.looked.now in
    let are = c.in_ok-unfenced.ensures looked.section.value.events looked.are_left in
    let long = ap (λ bs. length bs) c.deref-2.ensures.value ∙ are.long in (
      names_over c.requires.0 leaves_unfenced c.requires.1,
      c.requires.2.unfenced,
      omega (arith, c.requires.3, few_over c.requires.0 leaves_unfenced c.requires.1, long),
    )

pub take_uncovered-requires : goal.take_uncovered-requires
take_uncovered-requires c = (
  names_over c.requires.0 (is_asked c.args.unasserted) c.requires.1,
  c.requires.2.unasserted,
  omega (arith, c.requires.3, few_over c.requires.0 (is_asked c.args.unasserted) c.requires.1),
)

pub returns : goal.returns
returns c = λ stands sections are there.
    let looked = c.args.looked.now in
    let t = looked.section.value in
    let es = t.events in
    named_more stands c.args.unasserted sections t es c.args.located.now refl there _
    (c.in_ok-take_marked.ensures (names_over stands leaves_unwritten sections) (leaves_unwritten es) (length es) are.unwritten
    (subst (Marks (leaves_unwritten es) (length es)) (sym c.deref.ensures.value) (unwritten_marks es looked.left looked.are_left)))
    (c.in_ok-take_marked-2.ensures (names_over stands leaves_unfenced sections) (leaves_unfenced es) (length es) are.unfenced
    (subst (Marks (leaves_unfenced es) (length es)) (sym c.deref-2.ensures.value) (c.in_ok-unfenced.ensures es looked.are_left)))
    (c.in_ok-take_uncovered.ensures (names_over stands (is_asked c.args.unasserted) sections) are.unasserted)
