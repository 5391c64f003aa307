use Rattle.std.proofs.{Common.{[], sym, ap, ◌∙◌, append-nil}, lemmas.Result.{err_from_is_err_and}}
use Rattle.pmf_storelog.{specs.LogText.{fault_of}, proofs.ReaderLemmas.{log_of-shown}}
use Rattle.pmf_storelog.proofs.reading.read_log.Goals as goal

pub returns-in_err-feed : goal.returns-in_err-feed
returns-in_err-feed c =
    let p = err_from_is_err_and c.from_residual.result c.from_residual.ensures.1 in rw (p.1, p.2) (λ memory. log_of-shown c.args.run c.args.bytes.now _
    (ap fault_of (sym (append-nil c.args.bytes.now)) ∙ c.in_err-feed.ensures.of_all c.args.run [] c.new-reader.ensures memory []))

pub returns : goal.returns
returns c = c.finish.ensures.answers c.args.run c.args.bytes.now (c.in_ok-feed.ensures.ok c.args.run [] c.new-reader.ensures)
