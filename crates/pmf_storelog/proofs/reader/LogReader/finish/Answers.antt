use Rattle.std.proofs.{Common.{◌≤◌, length, arith}, lemmas.Result.{err_from_is_err_and}}
use Rattle.pmf_storelog.{specs.declared.fault.TheConstants.{LOG_LIMIT}, proofs.ReaderLemmas.{end_faulty, end_ok}}
use Rattle.pmf_storelog.proofs.reader.LogReader.finish.Goals as goal

pub returns-in_err-take_part-clause-answers : goal.returns-in_err-take_part-clause-answers
returns-in_err-take_part-clause-answers c = λ run bytes read.
    let p = err_from_is_err_and c.from_residual.result c.from_residual.ensures.1 in let short : length bytes ≤ LOG_LIMIT = omega (arith, read.total, c.args.self.within) in
    let shown = c.in_err-take_part.ensures.err run _ read.parsed.taken in rw (p.1, p.2) (end_faulty run bytes c.args.self.progress read.parsed short _ (rw (← c.deref.ensures.value) shown))

pub returns-clause-answers : goal.returns-clause-answers
returns-clause-answers c = λ run bytes read.
    let short : length bytes ≤ LOG_LIMIT = omega (arith, read.total, c.args.self.within) in let taken = c.in_ok-take_part.ensures.ok run _ read.parsed.taken in
    end_ok run bytes c.args.self.progress read.parsed short c.take_part.new.self c.into_log.result (rw (← c.deref.ensures.value) taken)
    c.into_log.ensures.ok c.into_log.ensures.err
