use Rattle.std.proofs.Common.{◌≡◌, ◌<◌, length, set, get_or, None, refl, sym, ◌∙◌, ap, subst, arith}
use Rattle.pmf_device.proofs.PageLemmas.{stops_so}
use Rattle.pmf_merge.{specs.{RawFeeding.{head_in}, Trusting.{IsTrustFaultOf, raw_names_of}, declared.raw_feed.RawFeed.{RawFeed}}, proofs.lemmas.RawHeadsLemmas.{head_at, of_raw_feed, raw_advanced, raw_fed_at, raw_name_at, raw_names_length, raw_names_set}, proofs.lemmas.WaitingLemmas.{set_head}}
use Rattle.pmf_merge.proofs.raw_heads.RawHeads.advance.Goals as goal

pub returns-in_err-advance-clause-refused : goal.returns-in_err-advance-clause-refused
returns-in_err-advance-clause-refused g c = λ starts lefts out m inside at_left.
    let index = c.args.index in let feeds = c.args.self.now.feeds.items in
    let fed = raw_fed_at (length starts) starts lefts feeds c.args.self.now.profile out m index inside c.index_mut-feed.result.now (g.R.Source.left c.args.source.now) c.index_mut-feed.ensures.value at_left in
    let refused = c.in_err-advance.ensures.refused (get_or starts index None) (m.told index) fed in
    stops_so _ (IsTrustFaultOf starts) c.from_residual.result c.in_err-advance.field-0.0 c.from_residual.ensures (of_raw_feed starts index (get_or starts index None) c.in_err-advance.field-0.0 inside refl refused)

pub returns-in-Ok-clause-advanced : goal.returns-in-Ok-clause-advanced
returns-in-Ok-clause-advanced g c = λ n starts lefts out new v m inside enough at_left least told.
    let index = c.args.index in let feeds = c.args.self.now.feeds.items in let feed = c.index_mut-feed.result.now in let long = m.feeds_are in
    let fed = raw_fed_at n starts lefts feeds c.args.self.now.profile out m index inside feed (g.R.Source.left c.args.source.now) c.index_mut-feed.ensures.value at_left in
    let here = sym (head_at feeds index feed (omega (arith, inside, long)) ∙ ap head_in (sym c.index_mut-feed.ensures.value)) ∙ least.0 in
    let next = c.in_ok-advance.ensures.advanced (get_or starts index None) (m.told index) v fed here in
    let by = c.in_ok-advance.ensures.profile ∙ ap (λ (f : RawFeed). f.profile) c.index_mut-feed.ensures.value ∙ m.by_one index feed inside in
    raw_advanced n starts lefts feeds c.args.self.now.profile out new m index v inside least told c.advance.new.self (g.R.Source.left c.advance.new.source) next by enough

pub returns-in-Ok-clause-waiting : goal.returns-in-Ok-clause-waiting
returns-in-Ok-clause-waiting g c = λ is inside.
    let index = c.args.index in let feeds = c.args.self.now.feeds.items in let names = raw_names_of feeds in let new = c.name-new.result in
    let name : get_or names index None ≡ c.name-name.result = raw_name_at feeds index c.index_mut-feed.result.now c.index_mut-feed.ensures.value inside ∙ sym c.name-name.ensures in
    let all : raw_names_of (set feeds index c.advance.new.self) ≡ set names index new = raw_names_set feeds index c.advance.new.self ∙ ap (set names index) (sym c.name-new.ensures) in
    rw all (c.in-Ok.ensures names (set names index new) is name (set_head names index new (subst (λ n. index < n) (sym (raw_names_length feeds)) inside)))
