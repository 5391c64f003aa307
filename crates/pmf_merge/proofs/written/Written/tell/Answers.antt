use Rattle.pmf_ledger.specs.Telling.{text_before}
use Rattle.pmf_merge.{proofs.lemmas.FrontLemmas.{front_of_some}, proofs.lemmas.TellingLemmas.{whole_more}}
use Rattle.pmf_merge.proofs.written.Written.tell.Goals as goal

pub returns-then-len-lt-ROOM-clause-told : goal.returns-then-len-lt-ROOM-clause-told
returns-then-len-lt-ROOM-clause-told g c = λ form profile held out written. record {
  told = c.in-Ok.ensures.told form out written.told;
  front = written.front;
  page = written.page;
  whole = whole_more form written.front _ _ (text_before form profile) out c.args.verdict.now written.whole (c.in-Ok.ensures.text form out written.told);
}

pub returns-clause-told : goal.returns-clause-told
returns-clause-told g c = λ form profile held out written. c.write.ensures.written form profile held _ (record {
  told = c.in-Ok.ensures.told form out written.told;
  front = written.front;
  page = written.page;
  whole = whole_more form written.front _ _ (text_before form profile) out c.args.verdict.now written.whole (c.in-Ok.ensures.text form out written.told);
})

pub returns-in-Err-clause-front : goal.returns-in-Err-clause-front
returns-in-Err-clause-front g c = λ form profile held out written.
    front_of_some form profile held _ out c.args.self.now written

pub returns-clause-front : goal.returns-clause-front
returns-clause-front g c = λ form profile held out written. c.write.ensures.front form profile held _ (record {
  told = c.in-Ok.ensures.told form out written.told;
  front = written.front;
  page = written.page;
  whole = whole_more form written.front _ _ (text_before form profile) out c.args.verdict.now written.whole (c.in-Ok.ensures.text form out written.told);
})
