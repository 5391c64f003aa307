use Rattle.std.proofs.Common.{◌≡◌, suc, ◌+◌, ◌++◌, length, length-append, ap, subst, arith, ◌∙◌}
use Rattle.pmf_lint.{specs.Counting.{Lists}, specs.StoreNames.{names_among}, proofs.StoreNameLemmas.{among_more, among_none, few_among, is_marked, marked_among, marked_here}}
use Rattle.pmf_lint.proofs.storing.take_marked.Goals as goal

pub loop-index-init : goal.loop-index-init
loop-index-init c = λ names lists. subst (Lists c.args.listing.now) (among_none (is_marked c.args.marks.now) c.args.located.now names) lists

pub take_if-requires : goal.take_if-requires
take_if-requires c = (
  c.requires.0 ++ names_among (is_marked c.args.marks.now) c.args.located.now c.loop-index.index,
  c.loop-index.invariant c.requires.0 c.requires.1,
  omega (arith, length-append c.requires.0 (names_among (is_marked c.args.marks.now) c.args.located.now c.loop-index.index), few_among (is_marked c.args.marks.now) c.args.located.now c.loop-index.index, c.requires.2, c.loop-index-test.true),
)

pub loop-index-preserved : goal.loop-index-preserved
loop-index-preserved c = λ names lists.
    let next : suc c.loop-index.index ≡ c.loop-index.index + 1 = omega arith in
    subst (Lists c.take_if.new.listing)
    (among_more (is_marked c.args.marks.now) c.args.located.now c.loop-index.index names _ (marked_here c.args.marks.now c.loop-index.index)
    ∙ ap (λ n. names ++ names_among (is_marked c.args.marks.now) c.args.located.now n) next)
    (c.in_ok-take_if.ensures (names ++ names_among (is_marked c.args.marks.now) c.args.located.now c.loop-index.index) (c.loop-index.invariant names lists))

pub returns : goal.returns
returns c = λ names test n lists are.
    let end : c.loop-index.index ≡ length c.args.marks.now = omega arith in
    subst (Lists c.loop-index.listing)
    (ap (λ k. names ++ names_among (is_marked c.args.marks.now) c.args.located.now k) end ∙ ap (λ ns. names ++ ns) (marked_among test c.args.located.now n c.args.marks.now are))
    (c.loop-index.invariant names lists)
