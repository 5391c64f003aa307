use Rattle.std.proofs.Common.{Some, refl, ap, subst, ◌∙◌}
use Rattle.pmf_cut.specs.{declared.part.Part.{Part}, Lost.{Adds}}
use Rattle.pmf_cut.proofs.section.Cutting.go_on.Goals as goal

pub returns : goal.returns
returns c = record {
  same = record { number_is = refl; name_is = refl; file_is = refl; part_is = refl };
  begins = c.go_on-ended.ensures.begins;
  adds = subst (λ (part : Part). Adds c.args.self.now.past c.add.new.self part) c.go_on-ended.ensures.ended c.in_ok-add.ensures.adds;
  last = c.in_ok-add.ensures.last ∙ ap Some c.go_on-ended.ensures.ended;
  head = c.events-head.ensures;
  lost = refl;
}
