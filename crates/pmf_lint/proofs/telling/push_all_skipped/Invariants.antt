use Rattle.std.proofs.Common.{◌≡◌, ◌++◌, take, flat_map, string_bytes}
use Rattle.pmf_lint.specs.LintText.{line_of_skipped}
use Rattle.pmf_lint.proofs.telling.push_all_skipped.Given as goal

abbrev pub invariant-loop-named : goal.invariant-loop-named
invariant-loop-named l = string_bytes l.text ≡ string_bytes l.initial.text ++ flat_map (λ b. line_of_skipped b) (take l.named-index l.counts)
