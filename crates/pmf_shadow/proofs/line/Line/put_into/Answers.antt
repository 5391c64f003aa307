use Rattle.std.proofs.Common.{◌∙◌, arith, refl}
use Rattle.pmf_runs.specs.Runs as behind
use Rattle.pmf_shadow.proofs.FrontLemmas.{pushed_others, pushed_more, all_pushed, even_begins, even_goes_on}
use Rattle.pmf_shadow.proofs.line.Line.put_into.Goals as goal

pub loop-word-init : goal.loop-word-init
loop-word-init c = record {
  upto = omega arith;
  others = λ b off. refl;
  put = λ b on low. absurd (omega arith);
  even = even_begins c.state_of-even.result (behind.state_at c.args.runs.now) c.args.number c.state_of-even.ensures;
}

pub returns-in_err-put_words-clause-others : goal.returns-in_err-put_words-clause-others
returns-in_err-put_words-clause-others c = λ b off. c.in_err-put_words.ensures.unchanged.states b ∙ c.loop-word.invariant.others b off

pub loop-word-preserved : goal.loop-word-preserved
loop-word-preserved c =
    let upto = c.run_end-upto.ensures.upto in
    let some = c.run_end-upto.ensures.some in
    record {
      upto = upto;
      others = λ b off. pushed_others c.loop-word.runs _ c.args.number c.loop-word.word c.run_end-upto.result _ upto c.in_ok-put_words.ensures.put b off ∙ c.loop-word.invariant.others b off;
      put = pushed_more (behind.state_at c.loop-word.runs) (behind.state_at c.put_words.new.runs) c.args.number c.loop-word.word c.run_end-upto.result c.args.self.now _ _ (λ k low high. c.run_end-upto.ensures.same k _ low high) upto c.in_ok-put_words.ensures.put.states c.loop-word.invariant.put;
      even = even_goes_on c.state_of-even.result (behind.state_at c.loop-word.runs) (behind.state_at c.put_words.new.runs) c.args.number c.loop-word.word c.run_end-upto.result _ (omega arith) c.in_ok-put_words.ensures.put.states c.loop-word.invariant.even;
    }

pub returns-clause-put : goal.returns-clause-put
returns-clause-put c = all_pushed (behind.state_at c.loop-word.runs) c.args.number c.loop-word.word c.args.self.now (omega (arith, c.loop-word-test.false)) c.loop-word.invariant.put
