use Rattle.std.proofs.Common.{◌++◌, ◌<◌, length, subst, arith}
use Rattle.pmf_ledger.specs.{LedgerText.{text_of_end}, RawText.{HasNoFirst}}
use Rattle.pmf_merge.proofs.raw_feed.RawFeed.is_garbled.Goals as goal

pub returns-then-rest-longest_end : goal.returns-then-rest-longest_end
returns-then-rest-longest_end c = λ is.
    let longer : c.longest_end.result < length c.rest-rest.result.now = c.if-rest-longest_end.true in let short = c.longest_end.ensures in (
      subst (λ xs. length (text_of_end c.args.self.now.told) < length xs) c.rest-rest.ensures (omega (arith, longer, short)),
      λ more. subst (λ xs. HasNoFirst (xs ++ more)) c.rest-rest.ensures (c.begins_no_block.ensures is more),
    )
