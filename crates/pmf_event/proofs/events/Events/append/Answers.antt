use Rattle.std.proofs.{Common.{◌≡◌, ◌+◌, ◌≤◌, ◌++◌, length, length-append, map, sym, ◌∙◌, ap, subst, arith}, lemmas.List.{length-map}}
use Rattle.pmf_event.specs.{Packed.{AreWithin, behind, event_of}, declared.section.TheConstants.{EVENT_LIMIT}}
use Rattle.pmf_event.proofs.PackedLemmas.{are_more, appended_are, appended_within}
use Rattle.pmf_event.proofs.events.Events.append.Goals as goal

pub put_behind-requires-clause-within : goal.put_behind-requires-clause-within
put_behind-requires-clause-within c =
    let few = c.more.invariant.1 in
    let most = c.more.invariant.0 in
    subst (AreWithin EVENT_LIMIT) (sym c.deref-2.ensures.value) (are_more _ EVENT_LIMIT c.more.inside.packed.items (omega (arith, few, most)) c.more.invariant.2)

pub invariant_of-self-2 : goal.invariant_of-self-2
invariant_of-self-2 c =
    let ps = c.self.inside.pairs.items in
    let qs = c.more.inside.pairs.items in
    let ks = c.self.inside.packed.items in
    let js = c.more.inside.packed.items in
    let pairs : c.extend_from_slice.new.self.items ≡ ps ++ qs = c.in_ok-extend_from_slice.ensures.items ∙ ap (λ l. ps ++ l) c.deref.ensures.value in
    let count : c.len-before.result ≡ length ps = omega (arith, c.len-before.ensures, c.self.inside.pairs.ok.0) in
    let kept : c.put_behind.new.packed.items ≡ ks ++ map (behind (length ps)) js =
    c.put_behind.ensures ∙ ap (λ l. l ++ map (behind c.len-before.result) c.deref-2.result.now) c.reserve.ensures.items
    ∙ ap (λ l. ks ++ map (behind c.len-before.result) l) c.deref-2.ensures.value ∙ ap (λ n. ks ++ map (behind n) js) count in
    let one : length c.args.self.now ≡ length ks = ap length (sym c.self.view_is) ∙ length-map ks _ in
    let other : length c.args.more ≡ length js = ap length (sym c.more.view_is) ∙ length-map js _ in
    let fit : length ks + length js ≤ EVENT_LIMIT = omega (arith, one, other, c.requires) in
    let few = c.self.invariant.1 in
    let few_more = c.more.invariant.1 in
    let long : length c.put_behind.new.packed.items ≡ length ks + length js = ap length kept ∙ length-append ks _ ∙ ap (λ n. length ks + n) (length-map js _) in
    let more : length c.extend_from_slice.new.self.items ≡ length ps + length qs = ap length pairs ∙ length-append ps qs in (
      omega (arith, long, fit),
      omega (arith, long, more, few, few_more),
      subst (λ l. AreWithin (length l) c.put_behind.new.packed.items) (sym pairs) (appended_within ps qs ks js _ c.self.invariant.2 c.more.invariant.2 (omega (arith, fit, few, few_more)) kept),
    )

pub returns-clause-ok : goal.returns-clause-ok
returns-clause-ok c =
    let ps = c.self.inside.pairs.items in
    let qs = c.more.inside.pairs.items in
    let ks = c.self.inside.packed.items in
    let js = c.more.inside.packed.items in
    let pairs : c.extend_from_slice.new.self.items ≡ ps ++ qs = c.in_ok-extend_from_slice.ensures.items ∙ ap (λ l. ps ++ l) c.deref.ensures.value in
    let count : c.len-before.result ≡ length ps = omega (arith, c.len-before.ensures, c.self.inside.pairs.ok.0) in
    let kept : c.put_behind.new.packed.items ≡ ks ++ map (behind (length ps)) js =
    c.put_behind.ensures ∙ ap (λ l. l ++ map (behind c.len-before.result) c.deref-2.result.now) c.reserve.ensures.items
    ∙ ap (λ l. ks ++ map (behind c.len-before.result) l) c.deref-2.ensures.value ∙ ap (λ n. ks ++ map (behind n) js) count in
    let one : length c.args.self.now ≡ length ks = ap length (sym c.self.view_is) ∙ length-map ks _ in
    let other : length c.args.more ≡ length js = ap length (sym c.more.view_is) ∙ length-map js _ in
    let fit : length ks + length js ≤ EVENT_LIMIT = omega (arith, one, other, c.requires) in
    let few = c.self.invariant.1 in
    let few_more = c.more.invariant.1 in
    ap (λ l. map (event_of l) c.put_behind.new.packed.items) pairs
    ∙ appended_are ps qs ks js _ c.args.self.now c.args.more c.self.invariant.2 c.more.invariant.2 (omega (arith, fit, few, few_more)) c.self.view_is c.more.view_is kept
