use Rattle.std.proofs.{Common.{◌≡◌, ◌++◌, [], ◌∙◌, arith}, lemmas.Grind.{common_steps}, lemmas.Result.{err_from_is_err_and}, lemmas.List.{nil_from_length}}
use Rattle.pmf_storelog.proofs.ProgressLemmas.{first_ended_ok, first_ended_err, parsed_ended, shown_ended}
use Rattle.pmf_storelog.proofs.progress.Progress.end_part.Goals as goal

pub returns-then-is_empty-clause-ok : goal.returns-then-is_empty-clause-ok
returns-then-is_empty-clause-ok c = λ run bytes piece parsed ends.
    let none : c.args.self.now.carry.items ≡ [] = nil_from_length c.args.self.now.carry.items (grind (arith, common_steps)) in
    first_ended_ok run bytes c.args.self.now parsed piece c.args.end.now _ c.take_alone.result ends none none (c.take_alone.ensures.ok run _ parsed.taken)

pub returns-then-is_empty-clause-err : goal.returns-then-is_empty-clause-err
returns-then-is_empty-clause-err c = λ run bytes piece parsed ends.
    let none : c.args.self.now.carry.items ≡ [] = nil_from_length c.args.self.now.carry.items (grind (arith, common_steps)) in
    first_ended_err run bytes c.args.self.now parsed piece c.args.end.now c.take_alone.result ends none (c.take_alone.ensures.err run _ parsed.taken)

pub returns-in_err-take_part-clause-err : goal.returns-in_err-take_part-clause-err
returns-in_err-take_part-clause-err c = λ run bytes piece parsed ends.
    let p = err_from_is_err_and c.from_residual-in_err-take_part.result c.from_residual-in_err-take_part.ensures.1 in
    let carry : c.deref.result.now ≡ c.args.self.now.carry.items ++ c.args.end.now = c.deref.ensures.value ∙ c.in_ok-extend_from_slice.ensures.items in
    let shown = c.in_err-take_part.ensures.err run _ parsed.taken in rw (p.1, p.2) (shown_ended run bytes c.args.self.now parsed piece c.args.end.now _ ends (rw (← carry) shown))

pub returns-clause-ok : goal.returns-clause-ok
returns-clause-ok c = λ run bytes piece parsed ends.
    let carry : c.deref.result.now ≡ c.args.self.now.carry.items ++ c.args.end.now = c.deref.ensures.value ∙ c.in_ok-extend_from_slice.ensures.items in
    let taken = c.in_ok-take_part.ensures.ok run _ parsed.taken in parsed_ended run bytes c.args.self.now parsed piece c.args.end.now _ ends (rw (← carry) taken) c.clear.ensures.items
