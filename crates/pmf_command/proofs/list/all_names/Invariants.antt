use Rattle.std.{proofs.Common.{length, map}, specs.List.{slice_split}}
use Rattle.pmf_command.{specs.Answered.{is_line_end}, proofs.NamesLemmas.{AreNamed}}
use Rattle.pmf_command.proofs.list.all_names.Given as goal

abbrev pub invariant-loop-line : goal.invariant-loop-line
invariant-loop-line l = AreNamed (map (λ name. name.now) l.words) (slice_split is_line_end l.list) (length l.yielded) (map (λ name. name.now) l.names.items)
