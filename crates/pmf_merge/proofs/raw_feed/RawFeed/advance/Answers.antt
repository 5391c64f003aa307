use Rattle.std.proofs.Common.{◌≡◌, ◌∙◌, ◌∷◌, ◌++◌, [], OnOk, Some, option_map, sym, ap, subst}
use Rattle.pmf_ledger.specs.RawText.{raw_of}
use Rattle.pmf_merge.{specs.RawFeeding.{IsRawHead, rest_of}, proofs.lemmas.RawFeedLemmas.{fed_next}}
use Rattle.pmf_merge.proofs.raw_feed.RawFeed.advance.Goals as goal

pub returns-clause-advanced : goal.returns-clause-advanced
returns-clause-advanced g c = λ start told v head is.
    let found = c.in-Some.found in let left = g.R.Source.left c.args.source.now in
    let b = raw_of (rest_of c.args.self.now.unread) found in
    let both : Some b ≡ Some v = ap (option_map (raw_of (rest_of c.args.self.now.unread))) (sym c.in-Some.is) ∙ is in let same : b ≡ v = cc in
    let behind = c.take.ensures in
    subst (λ w. OnOk c.find.result (IsRawHead start (g.R.Source.left c.find.new.source) (told ++ w ∷ []) c.find.new.self)) same
    (c.find.ensures.found start (told ++ b ∷ []) (fed_next start left told c.args.self.now found c.take.new.self c.in-Some-checked_add.told c.saturating_add-self.result head c.in-Some.is behind c.in-Some-checked_add.ensures.1))

pub returns-clause-refused : goal.returns-clause-refused
returns-clause-refused g c = λ start told head.
    let found = c.in-Some.found in let left = g.R.Source.left c.args.source.now in let behind = c.take.ensures in
    c.find.ensures.refused start (told ++ raw_of (rest_of c.args.self.now.unread) found ∷ [])
    (fed_next start left told c.args.self.now found c.take.new.self c.in-Some-checked_add.told c.saturating_add-self.result head c.in-Some.is behind c.in-Some-checked_add.ensures.1)
