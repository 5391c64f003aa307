use Rattle.std.{proofs.Common.{length, sym, ap, ◌∙◌, arith, nat_cmp}, proofs.lemmas.Grind.{common_steps}, specs.Map.{lookup}, specs.BTreeMap.{is_at, get}}
use Rattle.pmf_storelog.proofs.SectionLemmas.{one_longer, inside_either}
use Rattle.pmf_storelog.proofs.sections.OpenSections.open.Goals as goal

pub invariant_of-self : goal.invariant_of-self
invariant_of-self c =
    let same = ap length c.in_err-push.ensures.items in
    record {
      inside = λ number place is. omega (arith, same, c.args.self.now.inside number place is);
      few = omega (arith, same, c.args.self.now.few);
      current_inside = λ some. omega (arith, same, c.args.self.now.current_inside some);
    }

pub invariant_of-self-in-Break-branch-2 : goal.invariant_of-self-in-Break-branch-2
invariant_of-self-in-Break-branch-2 c =
    let longer = one_longer c.args.self.now.sections.items c.push.new.self.items _ c.in_ok-push.ensures.items in
    record {
      inside = λ number place is. omega (arith, longer, c.args.self.now.inside number place (ap (lookup (is_at (nat_cmp number))) (sym c.in_err-insert.ensures.err) ∙ is));
      few = grind (arith, common_steps, longer);
      current_inside = λ some. omega (arith, longer, c.args.self.now.current_inside some);
    }

pub invariant_of-self-2 : goal.invariant_of-self-2
invariant_of-self-2 c =
    let longer = one_longer c.args.self.now.sections.items c.push.new.self.items _ c.in_ok-push.ensures.items in
    record {
      inside = λ number place is.
          inside_either (is_at (nat_cmp c.args.number) number) c.len-place.result place (length c.push.new.self.items) (get nat_cmp c.args.self.now.places number) (sym (c.in_ok-insert.ensures.updates.0 number) ∙ is)
          (omega (arith, longer, c.len-place.ensures)) (λ was. omega (arith, longer, c.args.self.now.inside number place was));
      few = grind (arith, common_steps, longer);
      current_inside = λ some. omega (arith, longer, c.len-place.ensures);
    }
