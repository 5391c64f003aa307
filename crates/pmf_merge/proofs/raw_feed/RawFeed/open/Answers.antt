use Rattle.std.{proofs.{Common.{[], refl, subst}}}
use Rattle.pmf_device.proofs.PageLemmas.{stops_so}
use Rattle.pmf_ledger.specs.RawText.{HasNoVersion, IsFirstVersion}
use Rattle.pmf_merge.{specs.RawFeeding.{IsRawFault, rest_of}, proofs.lemmas.RawFeedLemmas.{fed_first, no_text_begins, read_first}}
use Rattle.pmf_merge.proofs.raw_feed.RawFeed.open.Goals as goal

pub returns-in_default-clause-refused : goal.returns-in_default-clause-refused
returns-in_default-clause-refused g c =
    let reads = c.in_ok-read_more.ensures.more in (
      refl,
      no_text_begins (g.R.Source.left c.args.source.now) (g.R.Source.left c.read_more.new.source) (rest_of c.read_more.new.self) (read_first _ _ _ _ _ c.new-unread.ensures reads)
          (subst HasNoVersion c.rest.ensures c.in_default.ensures) reads.filled,
    )

pub returns-in_err-find-clause-refused : goal.returns-in_err-find-clause-refused
returns-in_err-find-clause-refused g c =
    let start = g.R.Source.left c.args.source.now in let left = g.R.Source.left c.read_more.new.source in let rest = rest_of c.read_more.new.self in
    let read = read_first start left (rest_of c.new-unread.result) rest c.in_ok-read_more.field-0 c.new-unread.ensures c.in_ok-read_more.ensures.more in
    let first = subst (λ xs. IsFirstVersion xs (c.in-Some.profile, c.in-Some.taken)) c.rest.ensures c.in-Some.ensures in
    let behind = c.take.ensures in
    stops_so _ (IsRawFault start c.args.index) c.from_residual-in_err-find.result c.in_err-find.field-0.0 c.from_residual-in_err-find.ensures
    (c.in_err-find.ensures.refused start [] (fed_first start left rest c.in-Some.profile c.in-Some.taken 1 c.take.new.self read first behind))

pub returns-clause-head : goal.returns-clause-head
returns-clause-head g c =
    let start = g.R.Source.left c.args.source.now in let left = g.R.Source.left c.read_more.new.source in let rest = rest_of c.read_more.new.self in
    let read = read_first start left (rest_of c.new-unread.result) rest c.in_ok-read_more.field-0 c.new-unread.ensures c.in_ok-read_more.ensures.more in
    let first = subst (λ xs. IsFirstVersion xs (c.in-Some.profile, c.in-Some.taken)) c.rest.ensures c.in-Some.ensures in
    let behind = c.take.ensures in
    c.in_ok-find.ensures.found start [] (fed_first start left rest c.in-Some.profile c.in-Some.taken 1 c.take.new.self read first behind)
