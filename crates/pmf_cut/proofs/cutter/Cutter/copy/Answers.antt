use Rattle.std.proofs.Common.{◌≡◌, ◌+◌, ◌-◌, List, ℕ, [], ◌∷◌, take, drop, length, subst, arith, length-drop, take_all}
use Rattle.pmf_storelog.specs.Separators.{parts_of}
use Rattle.pmf_cut.proofs.CuttingLemmas.{cuts_part}
use Rattle.pmf_cut.proofs.cutter.Cutter.copy.Goals as goal

pub loop-len-preserved : goal.loop-len-preserved
loop-len-preserved c = (
  omega (arith, c.in-Some.ensures.within, length-drop c.loop-len.start c.args.text.now),
  λ step done handed ended cuts.
      let rest = take_all (length c.args.text.now - c.loop-len.start) (drop c.loop-len.start c.args.text.now) (omega (arith, length-drop c.loop-len.start c.args.text.now)) in
      let parts = subst (λ (xs : List ℕ). parts_of (take (c.in-Some.len + 1) xs) ≡ take c.in-Some.len xs ∷ [] ∷ []) rest c.in-Some.ensures.cases in
      let n : c.loop-len.start + c.in-Some.len - c.loop-len.start ≡ c.in-Some.len = omega arith in
      let all : c.loop-len.start + c.in-Some.len + 1 - c.loop-len.start ≡ c.in-Some.len + 1 = omega arith in
      cuts_part step done c.args.text.now handed c.loop-len.self c.take_part.new.self c.loop-len.start c.in-Some.len (c.loop-len.invariant.1 step done handed ended cuts) parts (rw (n, all) at c.in_ok-take_part.ensures),
)
