use Rattle.std.proofs.{Common.{◌≡◌, ◌+◌, [], ◌∷◌, length, length-append, sym, ◌∙◌, ap, arith}, lemmas.List.{length-map}}
use Rattle.pmf_event.proofs.PackedLemmas.{one_put_within, one_within}
use Rattle.pmf_event.proofs.events.Events.pack.Goals as goal

pub invariant_of-self-2 : goal.invariant_of-self-2
invariant_of-self-2 c =
    let ks = c.self.inside.packed.items in
    let long : length c.push.new.self.items ≡ length ks + 1 = ap length c.in_ok-push.ensures.items ∙ length-append ks (c.args.packed ∷ []) in
    let was : length c.args.self.now ≡ length ks = ap length (sym c.self.view_is) ∙ length-map ks _ in
    let few = c.self.invariant.1 in
    (omega (arith, long, was, c.requires.room), omega (arith, long, few), one_put_within _ ks _ c.args.packed c.self.invariant.2 (one_within 0 _ c.args.packed (omega arith) c.requires.alone) c.in_ok-push.ensures.items)
