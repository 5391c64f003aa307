use Rattle.std.proofs.Common.{[], ◌∷◌, ◌++◌, ◌∙◌, ap, arith, refl}
use Rattle.pmf_runs.proofs.TwoLemmas.{two-put}
use Rattle.pmf_runs.proofs.room.put_two.Goals as goal

pub returns-clause-items : goal.returns-clause-items
returns-clause-items g c =
    let was = c.args.list.now.ok.0 in
    let is = c.copy_within.new.self.ok.0 in
    two-put c.args.list.now.items c.push-2.new.list.items c.copy_within.new.self.items _ c.args.index c.len-len.result c.args.one c.args.two
    (omega (arith, was, c.len-len.ensures)) (omega (arith, c.requires.within, c.len-len.ensures))
    (c.push-2.ensures.items ∙ ap (λ l. l ++ (c.args.two ∷ [])) c.push.ensures.items)
    (omega (arith, is, c.copy_within.ensures.len, c.push-2.ensures.len, c.push.ensures.len, c.len-len.ensures))
    c.copy_within.ensures.by_index.1 c.copy_within.ensures.by_index.0 refl
