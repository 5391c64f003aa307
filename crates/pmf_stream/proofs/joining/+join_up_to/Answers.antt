use Rattle.std.specs.Prelude.{drop, take, MatchResult}
use Rattle.std.proofs.{Common.{[], ◌≡◌, ◌<◌, ◌+◌, ◌-◌, ◌≤◌, length, map, sym, ◌∙◌, ap, subst, arith, length-take-le}, lemmas.List.{get_or-map, length-drop, length-map}}
use Rattle.pmf_stream.{specs.Joining.{IsJoinOf, IsRefusedInTurn}, proofs.lemmas.TextJoiningLemmas.{MatchResult-next, take_up_to}}
use Rattle.pmf_stream.proofs.joining.+join_up_to.Goals as goal

pub returns-then-end-first-eq1 : goal.returns-then-end-first-eq1
returns-then-end-first-eq1 t c =
    let texts = c.args.texts.now in
    let items = map (λ text. text.items) texts in
    let first = c.args.first in
    let text = c.index-texts-first.result in
    let last : c.args.end ≡ first + 1 = omega (arith, c.if-end-first-eq1.true) in
    let here : first < length texts = omega (arith, last, c.requires.within) in
    let within : first < length items = rw (length-map texts (λ text. text.items)) here in
    let is = ap (λ t. t.items) c.index-texts-first.is ∙ sym (get_or-map (λ t. t.items) texts first text [] here) in
    subst (λ n. MatchResult c.join_text.result (IsJoinOf (take n items)) (IsRefusedInTurn items)) (sym last)
    (MatchResult-next items first text.items c.args.before c.join_text.result within is c.requires.reached
    (rw c.deref.ensures.value at c.join_text.ensures.joined) (rw c.deref.ensures.value at c.join_text.ensures.refused))

pub returns-in-Ok : goal.returns-in-Ok
returns-in-Ok t c =
    let texts = c.args.texts.now in
    let items = map (λ text. text.items) texts in
    let middle = c.args.first + c.middle_of.result in
    let some : 0 < middle = omega (arith, c.middle_of.ensures.some) in
    let enough : c.args.end - c.args.first ≤ length (drop c.args.first texts) = rw (length-drop c.args.first texts) (omega (arith, c.requires.within)) in
    let inside : c.middle_of.result < c.args.end - c.args.first = subst (λ n. c.middle_of.result < n) (length-take-le (c.args.end - c.args.first) (drop c.args.first texts) enough) c.middle_of.ensures.within in
    let rises : middle ≤ c.args.end = omega (arith, inside, c.requires.rises) in
    let within : middle ≤ length items = rw (length-map texts (λ text. text.items)) (omega (arith, rises, c.requires.within)) in
    let count : 0 < length (take middle items) = rw (length-take-le middle items within) some in
    subst (λ ts. IsJoinOf ts c.in-Ok.joined) (take_up_to (λ text. text.items) texts middle c.args.end rises) (c.in-Ok.ensures.joined (take middle items) count c.in_ok-reached.ensures)
