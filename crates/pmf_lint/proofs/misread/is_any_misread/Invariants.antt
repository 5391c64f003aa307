use Rattle.std.proofs.Common.{◌≡◌, false}
use Rattle.pmf_shadow.specs.Shadow.{StandsFor}
use Rattle.pmf_lint.specs.Misread.{misread_among}
use Rattle.pmf_lint.proofs.misread.is_any_misread.Given as goal

abbrev pub invariant-loop-index : goal.invariant-loop-index
invariant-loop-index l = record {
  place : l.place ≡ l.index;
  stands : StandsFor l.shadow (λ k. k) l.events l.index;
  none : misread_among l.events l.located l.index ≡ false;
}
