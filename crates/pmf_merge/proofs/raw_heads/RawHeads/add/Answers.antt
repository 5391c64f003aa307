use Rattle.std.proofs.Common.{◌≡◌, ◌∷◌, ◌++◌, [], get_or, None, sym, ◌∙◌, ap, subst}
use Rattle.pmf_device.proofs.PageLemmas.{stops_so}
use Rattle.pmf_merge.{specs.RawFeeding.{IsRawHead}, specs.Trusting.{BeginsRaw, IsTrustFaultOf, raw_names_of}, specs.Waiting.{PutsAt}, proofs.lemmas.RawHeadsLemmas.{begins_at, begins_bare, of_raw_feed, raw_added, raw_begins, raw_names_length, raw_names_push}, proofs.lemmas.WaitingLemmas.{none_behind, push_head}}
use Rattle.pmf_merge.proofs.raw_heads.RawHeads.add.Goals as goal

pub returns-in_err-feed-clause-refused : goal.returns-in_err-feed-clause-refused
returns-in_err-feed-clause-refused g c = λ starts lefts m same inside.
    let left = g.R.Source.left c.args.source.now in
    stops_so _ (IsTrustFaultOf starts) c.from_residual.result c.in_err-feed.field-0.0 c.from_residual.ensures (of_raw_feed starts c.args.index left c.in_err-feed.field-0.0 inside same c.in_err-feed.ensures.refused)

pub returns-in_err-self-clause-refused : goal.returns-in_err-self-clause-refused
returns-in_err-self-clause-refused g c = λ starts lefts m same inside.
    let left = g.R.Source.left c.args.source.now in let feed = c.in_ok-feed.feed in let profile = c.args.self.now.profile in
    let refused = c.in_err-self.ensures.refused in
    let first = begins_bare (get_or starts 0 None) profile (m.told 0) (begins_at c.args.index starts lefts c.args.self.now.feeds.items profile [] m 0 refused.1) in
    let other = subst (λ start. BeginsRaw start feed.profile []) (sym same) (raw_begins left (g.R.Source.left c.open.new.source) feed c.in_ok-feed.ensures.head) in
    stops_so _ (IsTrustFaultOf starts) c.from_residual-in_err-self.result c.in_err-self.field-0.0 c.from_residual-in_err-self.ensures
    (subst (IsTrustFaultOf starts) (sym refused.0) (inside, (profile, feed.profile, refused.2, first, other)))

pub returns-in-Ok-put-clause-added : goal.returns-in-Ok-put-clause-added
returns-in-Ok-put-clause-added g c = λ starts lefts m same inside.
    let left = g.R.Source.left c.args.source.now in let feed = c.in_ok-feed.feed in let one = c.in_ok-self.ensures.one in
    let headed = subst (λ start. IsRawHead start (g.R.Source.left c.open.new.source) [] feed) (sym same) c.in_ok-feed.ensures.head in
    rw c.in-Ok.ensures.items
    (raw_added c.args.index starts lefts c.args.self.now.feeds.items c.args.self.now.profile c.in_ok-self.field-0 m one.1 inside feed (g.R.Source.left c.open.new.source) headed (sym one.0))

pub returns-in-Ok-put-clause-waiting : goal.returns-in-Ok-put-clause-waiting
returns-in-Ok-put-clause-waiting g c = λ long is.
    let feeds = c.args.self.now.feeds.items in let feed = c.in_ok-feed.feed in let names = raw_names_of feeds in let name = c.name-name.result in
    let count = raw_names_length feeds ∙ long in
    let all : raw_names_of (feeds ++ feed ∷ []) ≡ names ++ name ∷ [] = raw_names_push feeds feed ∙ ap (λ n. names ++ n ∷ []) (sym c.name-name.ensures) in
    rw (c.in-Ok.ensures.items, all)
    (c.in-Ok-put.ensures names (names ++ name ∷ []) is (subst (λ n. get_or names n None ≡ None) count (none_behind names)) (subst (λ n. PutsAt names n name (names ++ name ∷ [])) count (push_head names name)))
