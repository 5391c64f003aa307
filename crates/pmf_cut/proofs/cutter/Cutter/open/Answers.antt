use Rattle.std.{proofs.Common.{◌≡◌, ◌++◌, ◌∷◌, [], Some, length, refl, ap, ◌∙◌, arith}, proofs.lemmas.Grind.{common_steps}}
use Rattle.pmf_cut.proofs.CuttingLemmas.{begun, cut_as}
use Rattle.pmf_cut.proofs.cutter.Cutter.open.Goals as goal

pub returns : goal.returns
returns c = λ none step records handed cuts.
    let named = c.in_ok-name.ensures in
    let updates = c.in_ok-insert.ensures.updates in
    let place : c.len-place.result ≡ length c.args.self.now.sections.items = omega (arith, c.len-place.ensures, ap (λ list. length list.items) named.same.sections) in (
      record {
        step_is = named.same.step_is ∙ cuts.step_is;
        has =
            cut_as _ step records handed _ _ _ _ _ _ _ _ _ named.same.current_is refl refl (c.in_ok-push.ensures.items ∙ ap (λ list. list.items ++ c.new.result ∷ []) named.same.sections)
            (begun step records handed _ _ _ _ _ cuts.has _ _ _ c.args.number c.newest-file.result c.new.result none named.named (updates.1 ∙ ap Some place) (λ other apart. search (arith, common_steps))
            named.more c.newest-file.ensures c.new.ensures.has c.new.ensures.part.0 c.new.ensures.part.1 c.new.ensures.part.2 c.new.ensures.past);
      },
      updates.1,
    )
