use Rattle.std.proofs.{Common.{◌∙◌, ◌++◌, sym, ap}, lemmas.Bool.{true≢false}, lemmas.Slice.Eq.{bytes_eq-Decides}}
use Rattle.pmf_ledger.specs.LedgerText.{text_of_end}
use Rattle.pmf_merge.proofs.lemmas.RawFeedLemmas.{no_text_ends}
use Rattle.pmf_merge.proofs.raw_feed.RawFeed.end.Goals as goal

pub returns-clause-refused : goal.returns-clause-refused
returns-clause-refused c = λ start left told fed ended none. c.refused.ensures start (no_text_ends start left told c.args.self.now fed ended none (λ same. let text = c.as_bytes.ensures.value ∙ c.in-Ok.ensures ∙ ap (λ xs. xs ++ text_of_end c.args.self.now.told) c.new-end.ensures.bytes in true≢false (sym ((bytes_eq-Decides c.rest.result.now c.as_bytes.result.now).1 (c.rest.ensures ∙ same ∙ sym text)) ∙ sym c.if-eq.ensures)))
