use Rattle.std.proofs.Common.{rules, ◌≡◌, ◌-◌, ◌<◌, length, sym, ◌∙◌, ap, subst, get_or}
use Rattle.pmf_verdict.specs.Checked.{Checked}
use Rattle.pmf_ledger.{specs.Names.{ComesBefore, IsBefore}, proofs.lemmas.MergingLemmas.{Merging-left, Merging-right, Merging-drop, all_before, read_is_held, last_is, none_of_empty}}
use Rattle.pmf_ledger.proofs.joining.merge_last.Goals as goal

pub returns-then-is_empty-clause-merging : goal.returns-then-is_empty-clause-merging
returns-then-is_empty-clause-merging c = λ xs ys so_far.
    let empty : length c.args.second.now.items ≡ 0 = search rules in
    Merging-left xs ys _ _ _ _ _ c.take_last.result c.take_last.ensures.items c.push_reserved.ensures.items (λ d found. absurd (none_of_empty _ d empty found)) so_far

pub returns-then-is_empty-2-clause-merging : goal.returns-then-is_empty-2-clause-merging
returns-then-is_empty-2-clause-merging c = λ xs ys so_far.
    let empty : length c.args.first.now.items ≡ 0 = search rules in
    Merging-right xs ys _ _ _ _ _ c.take_last-then-is_empty-2.result c.take_last-then-is_empty-2.ensures.items c.push_reserved-then-is_empty-2.ensures.items
    (λ d found. absurd (none_of_empty _ d empty found)) so_far

pub returns-in-Less-clause-merging : goal.returns-in-Less-clause-merging
returns-in-Less-clause-merging c = λ xs ys so_far.
    let first = c.args.first.now.items in let second = c.args.second.now.items in let x = c.index.result.now in let y = c.index-2.result.now in
    let is_x : x ≡ get_or first (length first - 1) x = search rules in let is_y : y ≡ get_or second (length second - 1) y = search rules in
    let moved : y ≡ c.take_last-in-Less.result = last_is second _ c.take_last-in-Less.result y c.take_last-in-Less.ensures.items is_y in
    let less : ComesBefore x y = subst (λ n. IsBefore n y.section.name) c.name.ensures (subst (IsBefore c.name.result) c.name-2.ensures (c.order.ensures.less c.in-Less.is)) in
    Merging-right xs ys _ _ _ _ _ c.take_last-in-Less.result c.take_last-in-Less.ensures.items c.push_reserved-in-Less.ensures.items
    (all_before first x c.take_last-in-Less.result so_far.left_rises is_x (subst (ComesBefore x) moved less)) so_far

pub returns-in-Greater-clause-merging : goal.returns-in-Greater-clause-merging
returns-in-Greater-clause-merging c = λ xs ys so_far.
    let first = c.args.first.now.items in let second = c.args.second.now.items in let x = c.index.result.now in let y = c.index-2.result.now in
    let is_x : x ≡ get_or first (length first - 1) x = search rules in let is_y : y ≡ get_or second (length second - 1) y = search rules in
    let moved : x ≡ c.take_last-in-Greater.result = last_is first _ c.take_last-in-Greater.result x c.take_last-in-Greater.ensures.items is_x in
    let less : ComesBefore y x = subst (λ n. IsBefore n x.section.name) c.name-2.ensures (subst (IsBefore c.name-2.result) c.name.ensures (c.order.ensures.greater c.in-Greater.is)) in
    Merging-left xs ys _ _ _ _ _ c.take_last-in-Greater.result c.take_last-in-Greater.ensures.items c.push_reserved-in-Greater.ensures.items
    (all_before second y c.take_last-in-Greater.result so_far.right_rises is_y (subst (ComesBefore y) moved less)) so_far

pub returns-in-Equal-clause-merging : goal.returns-in-Equal-clause-merging
returns-in-Equal-clause-merging c = λ xs ys so_far.
    let first = c.args.first.now.items in let second = c.args.second.now.items in let x = c.index.result.now in let y = c.index-2.result.now in
    let is_x : x ≡ get_or first (length first - 1) x = search rules in let is_y : y ≡ get_or second (length second - 1) y = search rules in
    let some : length second - 1 < length second = search rules in
    let dropped : x ≡ c.take_last-in-Equal.result = last_is first _ c.take_last-in-Equal.result x c.take_last-in-Equal.ensures.items is_x in
    let same : x.section.name ≡ y.section.name = sym c.name.ensures ∙ c.order.ensures.equal c.in-Equal.is ∙ c.name-2.ensures in
    Merging-drop xs ys _ _ _ _ c.take_last-in-Equal.result y c.take_last-in-Equal.ensures.items (read_is_held second y is_y some)
    (ap (λ (d : Checked). d.section.name) (sym dropped) ∙ same) so_far
