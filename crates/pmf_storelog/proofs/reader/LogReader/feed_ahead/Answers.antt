use Rattle.std.proofs.{Common.{◌++◌, refl}, lemmas.Result.{err_from_is_err_and}}
use Rattle.pmf_storelog.proofs.{LogLemmas.{shown_of_all}, ReaderLemmas.{fed_faulty, fed_long, fed_whole, fed_length, fed_none}}
use Rattle.pmf_storelog.proofs.reader.LogReader.feed_ahead.Goals as goal

pub returns-in_err-rest : goal.returns-in_err-rest
returns-in_err-rest c =
    let piece = c.args.piece.now in let old = c.args.self.now in let p = err_from_is_err_and c.from_residual.result c.from_residual.ensures.1 in
    rw (p.1, p.2) (record {
      ok = λ run bytes read. tt;
      faultless = λ run bytes read. tt;
      err = λ run bytes read. fed_faulty run bytes piece old.total c.min-taken.result read.total old.within c.min-taken.ensures _ (c.in_err-rest.ensures.err run bytes read.parsed);
      of_all = λ run bytes read memory. shown_of_all (bytes ++ piece) _
          (fed_faulty run bytes piece old.total c.min-taken.result read.total old.within c.min-taken.ensures _ (c.in_err-rest.ensures.err run bytes read.parsed) memory);
      refused = refl;
      is_spent = λ spent. cc;
    })

pub returns-then-taken-piece-2 : goal.returns-then-taken-piece-2
returns-then-taken-piece-2 c =
    let piece = c.args.piece.now in let old = c.args.self.now in
    record {
      ok = λ run bytes read. tt;
      faultless = λ run bytes read. tt;
      err = λ run bytes read memory. fed_long run bytes piece old.total c.min-taken.result read.total old.within c.min-taken.ensures
          c.in_ok-rest.rest.now c.read_with.new.self c.fault.result (c.in_ok-rest.ensures.ok run bytes read.parsed) c.if-taken-piece-2.true c.fault.ensures;
      of_all = λ run bytes read memory. shown_of_all (bytes ++ piece) c.fault.result
          (fed_long run bytes piece old.total c.min-taken.result read.total old.within c.min-taken.ensures
          c.in_ok-rest.rest.now c.read_with.new.self c.fault.result (c.in_ok-rest.ensures.ok run bytes read.parsed) c.if-taken-piece-2.true c.fault.ensures);
      refused = refl;
      is_spent = λ spent. cc;
    }

pub returns : goal.returns
returns c =
    let piece = c.args.piece.now in let old = c.args.self.now in
    record {
      ok = λ run bytes read. record {
        parsed = fed_whole run bytes piece old.total c.min-taken.result read.total old.within c.min-taken.ensures
            c.in_ok-rest.rest.now c.read_with.new.self c.keep.new.self (c.in_ok-rest.ensures.ok run bytes read.parsed) c.if-taken-piece-2.false
            c.keep.ensures.tally c.in_ok-keep.ensures.carry;
        total = fed_length run bytes piece old.total c.min-taken.result read.total old.within c.min-taken.ensures c.if-taken-piece-2.false;
        ready = refl;
      };
      faultless = λ run bytes read.
          let parsed = fed_whole run bytes piece old.total c.min-taken.result read.total old.within c.min-taken.ensures
          c.in_ok-rest.rest.now c.read_with.new.self c.keep.new.self (c.in_ok-rest.ensures.ok run bytes read.parsed) c.if-taken-piece-2.false
          c.keep.ensures.tally c.in_ok-keep.ensures.carry in
          fed_none run bytes piece old.total c.min-taken.result read.total old.within c.min-taken.ensures c.keep.new.self c.if-taken-piece-2.false parsed;
      err = λ run bytes read. tt;
      of_all = λ run bytes read. tt;
      refused = tt;
      is_spent = λ spent. cc;
    }
