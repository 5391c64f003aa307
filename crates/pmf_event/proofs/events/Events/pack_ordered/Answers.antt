use Rattle.std.proofs.{Common.{◌≡◌, ◌+◌, [], ◌∷◌, ◌++◌, length, length-append, sym, ◌∙◌, ap, arith}, lemmas.List.{length-map}}
use Rattle.pmf_event.specs.{Packed.{to_number}}
use Rattle.pmf_event.specs.declared.packed.Packed.TheVariants as packed
use Rattle.pmf_event.proofs.PackedLemmas.{ordered_put, ordered_within}
use Rattle.pmf_event.proofs.events.Events.pack_ordered.Goals as goal

pub invariant_of-self-2 : goal.invariant_of-self-2
invariant_of-self-2 c =
    let ps = c.self.inside.pairs.items in
    let ks = c.self.inside.packed.items in
    let pairs : c.push_reserved.new.self.items ≡ ps ++ (c.args.a, c.args.b) ∷ [] = c.push_reserved.ensures.items ∙ ap (λ l. l ++ (c.args.a, c.args.b) ∷ []) c.reserve-2.ensures.items in
    let kept : c.push_reserved-2.new.self.items ≡ ks ++ packed.Ordered (to_number c.len.result) ∷ [] =
    c.push_reserved-2.ensures.items ∙ ap (λ l. l ++ packed.Ordered c.new-number.result ∷ []) c.reserve.ensures.items ∙ ap (λ n. ks ++ packed.Ordered n ∷ []) c.new-number.ensures in
    let count : c.len.result ≡ length ps = omega (arith, c.len.ensures, c.reserve-2.ensures.len, c.self.inside.pairs.ok.0) in
    let was : length c.args.self.now ≡ length ks = ap length (sym c.self.view_is) ∙ length-map ks _ in
    let few = c.self.invariant.1 in
    let below = c.requires in
    let one : length c.push_reserved.new.self.items ≡ length ps + 1 = ap length pairs ∙ length-append ps _ in
    let other : length c.push_reserved-2.new.self.items ≡ length ks + 1 = ap length kept ∙ length-append ks _ in
    (omega (arith, other, was, below), omega (arith, one, other, few), ordered_within ps _ ks _ c.args.a c.args.b c.len.result c.self.invariant.2 count (omega (arith, count, few, was, below)) pairs kept)

pub returns-clause-ok : goal.returns-clause-ok
returns-clause-ok c =
    let ps = c.self.inside.pairs.items in
    let ks = c.self.inside.packed.items in
    let pairs : c.push_reserved.new.self.items ≡ ps ++ (c.args.a, c.args.b) ∷ [] = c.push_reserved.ensures.items ∙ ap (λ l. l ++ (c.args.a, c.args.b) ∷ []) c.reserve-2.ensures.items in
    let kept : c.push_reserved-2.new.self.items ≡ ks ++ packed.Ordered (to_number c.len.result) ∷ [] =
    c.push_reserved-2.ensures.items ∙ ap (λ l. l ++ packed.Ordered c.new-number.result ∷ []) c.reserve.ensures.items ∙ ap (λ n. ks ++ packed.Ordered n ∷ []) c.new-number.ensures in
    let count : c.len.result ≡ length ps = omega (arith, c.len.ensures, c.reserve-2.ensures.len, c.self.inside.pairs.ok.0) in
    let was : length c.args.self.now ≡ length ks = ap length (sym c.self.view_is) ∙ length-map ks _ in
    let few = c.self.invariant.1 in
    let below = c.requires in
    ordered_put ps _ ks _ c.args.self.now c.args.a c.args.b c.len.result c.self.invariant.2 c.self.view_is count (omega (arith, count, few, was, below)) pairs kept
