use Rattle.std.proofs.Common.{rules, ◌≡◌, sym, ◌∙◌, arith, IsTrue}
use Rattle.pmf_ledger.proofs.lemmas.ScanLemmas.{AreRead, Scanned-both, Scanned-ends}
use Rattle.pmf_ledger.proofs.joining.least_differing.Goals as goal

pub loop-i-preserved : goal.loop-i-preserved
loop-i-preserved c =
    let x = c.index-first-i.result in let y = c.index-second-j.result in
    let read : AreRead c.args.first.now c.args.second.now c.loop-i.i c.loop-i.j x y = record { first_inside = c.loop-i-test.true; second_inside = c.if-j-second.true; first_is = c.index-first-i.is; second_is = c.index-second-j.is } in
    let mine : c.deref.result.now ≡ x.section = c.deref.ensures ∙ c.section.ensures in
    let other : c.deref-in-Equal.result.now ≡ y.section = c.deref-in-Equal.ensures ∙ c.section-in-Equal.ensures in let yes : IsTrue c.same_as.result = search rules in
    record {
      scanned = Scanned-both c.args.first.now c.args.second.now c.loop-i.i c.loop-i.j x y c.loop-i.invariant.scanned read c.requires.first_rises c.requires.second_rises
          (sym mine ∙ c.same_as.ensures.0 yes ∙ other);
    }

pub returns-else-j-second : goal.returns-else-j-second
returns-else-j-second c =
    let out = c.if-j-second.false in Scanned-ends c.args.first.now c.args.second.now c.loop-i.i c.loop-i.j c.loop-i.invariant.scanned (λ some less. omega (arith, out, less))

pub returns-after-loop-i : goal.returns-after-loop-i
returns-after-loop-i c =
    let out = c.loop-i-test.false in Scanned-ends c.args.first.now c.args.second.now c.loop-i.i c.loop-i.j c.loop-i.invariant.scanned (λ some less. omega (arith, out, some))
