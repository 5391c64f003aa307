use Rattle.std.proofs.{Common.{◌≡◌, true, false, ◌++◌, length, set, get_or, None, refl, sym, ◌∙◌, ◌≡◌, ◌<◌, option_map, ap, subst, arith, rules}, lemmas.List.{get_or_default}, lemmas.Bool.{true≢false}}
use Rattle.pmf_verdict.specs.Checked.{Checked}
use Rattle.pmf_device.proofs.PageLemmas.{stops_so}
use Rattle.pmf_merge.{specs.{Heads.{names_of}, Merging.{IsMergeFaultOf}}, proofs.lemmas.{NamesLemmas.{name_at, names_length, names_set}, HeadsLemmas.{advanced, fed_at}, RefusalLemmas.{of_feed, tells_profile, told_next}, WaitingLemmas.{set_head}}}
use Rattle.pmf_merge.proofs.heads.Heads.advance.Goals as goal

pub returns-clause-advanced : goal.returns-clause-advanced
returns-clause-advanced g c = λ n starts lefts out new v m inside enough at_left least told.
    let index = c.args.index in let feeds = c.args.self.now.feeds.items in let heads = c.args.self.now.heads.items in
    let long = m.heads_are in
    let start = get_or starts index None in
    let fed = fed_at n starts lefts feeds heads c.args.self.now.profile out m index inside c.index_mut-feed.result.now (g.R.Source.left c.args.source.now) c.index_mut-feed.ensures.value at_left in
    let next = c.in_ok-head.ensures.next start (m.texts index) (m.readings index) fed in
    let yes : c.is_by.result ≡ true = search rules in
    let by = sym (c.profile-profile.ensures start _ _ next.1 next.2) ∙ c.is_by.ensures.0 yes in (
      c.replace-2.ensures.value ∙ c.index_mut.ensures.value ∙ get_or_default heads index _ None (omega (arith, inside, long)) ∙ least.0,
      rw c.replace-2.ensures.after
          (advanced n starts lefts feeds heads c.args.self.now.profile out new m index v inside least.0 least.1 told c.next.new.self (g.R.Source.left c.next.new.source) next.0 next.1 c.in_ok-head.head
          next.2 next.3 next.4 by enough),
    )

pub returns-clause-waiting : goal.returns-clause-waiting
returns-clause-waiting g c = λ is inside.
    let index = c.args.index in let heads = c.args.self.now.heads.items in let names = names_of heads in let new = c.name_in.result in
    let name : get_or names index None ≡ c.name_in-name.result =
    name_at (λ (v : Checked). v.section.name) heads index ∙ ap (option_map (λ (v : Checked). v.section.name)) (sym (get_or_default heads index c.index.result.now None inside) ∙ sym c.index.ensures) ∙ sym c.name_in-name.ensures in
    let all : names_of (set heads index c.in_ok-head.head) ≡ set names index new = names_set (λ (v : Checked). v.section.name) heads index c.in_ok-head.head ∙ ap (set names index) (sym c.name_in.ensures) in
    rw (c.replace-2.ensures.after, all)
    (c.in-Ok.ensures names (set names index new) is name (set_head names index new (subst (λ n. index < n) (sym (names_length (λ (v : Checked). v.section.name) heads)) inside)))

pub returns-in_err-head-clause-refused : goal.returns-in_err-head-clause-refused
returns-in_err-head-clause-refused g c = λ starts lefts out m inside at_left.
    let index = c.args.index in
    let fed = fed_at (length starts) starts lefts c.args.self.now.feeds.items c.args.self.now.heads.items c.args.self.now.profile out m index inside c.index_mut-feed.result.now
    (g.R.Source.left c.args.source.now) c.index_mut-feed.ensures.value at_left in
    let refused = c.in_err-head.ensures.refused (get_or starts index None) (m.texts index) (m.readings index) fed in
    stops_so _ (IsMergeFaultOf starts) c.from_residual.result c.in_err-head.field-0.0 c.from_residual.ensures (of_feed starts index (get_or starts index None) c.in_err-head.field-0.0 inside refl refused)

pub returns-then-not-is_by-clause-refused : goal.returns-then-not-is_by-clause-refused
returns-then-not-is_by-clause-refused g c = λ starts lefts out m inside at_left.
    let index = c.args.index in let profile = c.args.self.now.profile in
    let start = get_or starts index None in
    let fed = fed_at (length starts) starts lefts c.args.self.now.feeds.items c.args.self.now.heads.items profile out m index inside c.index_mut-feed.result.now (g.R.Source.left c.args.source.now)
    c.index_mut-feed.ensures.value at_left in
    let next = c.in_ok-head.ensures.next start (m.texts index) (m.readings index) fed in
    let told = told_next start (g.R.Source.left c.next.new.source) c.next.new.self (m.texts index ++ next.0) (m.readings index) next.1 c.in_ok-head.head next.2 next.3 next.4 in
    let other : c.is_by.result ≡ false = search rules in (
      inside,
      (
        profile,
        next.1.profile,
        tells_profile (length starts) starts lefts c.args.self.now.feeds.items c.args.self.now.heads.items profile out m 0 (omega (arith, inside)),
        told,
        λ same. true≢false (sym (c.is_by.ensures.1 (c.profile-profile.ensures start _ _ next.1 next.2 ∙ sym same)) ∙ other),
      ),
    )
