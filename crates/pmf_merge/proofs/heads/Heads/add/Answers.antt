use Rattle.std.proofs.Common.{◌≡◌, ◌∷◌, ◌++◌, [], get_or, None, sym, ◌∙◌, ap, subst}
use Rattle.pmf_verdict.specs.Checked.{Checked}
use Rattle.pmf_ledger.specs.Loading.{unread}
use Rattle.pmf_device.proofs.PageLemmas.{stops_so}
use Rattle.pmf_merge.{specs.Feeding.{IsFed}, specs.Waiting.{PutsAt}, specs.Heads.{names_of}, proofs.lemmas.NamesLemmas.{names_length, names_push}, proofs.lemmas.WaitingLemmas.{none_behind, push_head}, specs.Merging.{HasToldProfile, IsMergeFaultOf}, proofs.lemmas.HeadsLemmas.{added}, proofs.lemmas.RefusalLemmas.{of_feed, tells_profile, told_next}, proofs.heads.Heads.add.Goals.{in-Ok-push-2, in-Err-push}}
use Rattle.pmf_merge.proofs.heads.Heads.add.Goals as goal

pub next-requires-clause-fed : goal.next-requires-clause-fed
next-requires-clause-fed g c = λ _ _. (g.R.Source.left c.args.source.now, [], unread, c.in-Ok.ensures (g.R.Source.left c.args.source.now))

pub returns-clause-added : goal.returns-clause-added
returns-clause-added g c = λ starts lefts m same inside. elim c.match-push-2.branch [
  | in-Ok-push-2 w ↦
      let first = subst (λ start. IsFed start (g.R.Source.left c.args.source.now) c.in-Ok.feed [] unread) (sym same) (c.in-Ok.ensures (g.R.Source.left c.args.source.now)) in
      let next = c.in_ok-head.ensures.next (get_or starts c.args.index None) [] unread first in
      let by = sym (c.in_ok-self.ensures.one.0 ∙ c.profile.ensures _ _ _ next.1 next.2) in
      rw (w.result-is, c.in-Ok-push.ensures.items, w.in-Ok-push-2.ensures.items)
      (added c.args.index starts lefts c.args.self.now.feeds.items c.args.self.now.heads.items c.args.self.now.profile c.in_ok-self.field-0 m c.in_ok-self.ensures.one.1 inside c.next.new.self
      (g.R.Source.left c.next.new.source) next.0 next.1 c.in_ok-head.head next.2 next.3 next.4 by)
  | in-Err-push w ↦ rw w.result-is tt
]

pub returns-clause-waiting : goal.returns-clause-waiting
returns-clause-waiting g c = λ long is. elim c.match-push-2.branch [
  | in-Ok-push-2 w ↦
      let heads = c.args.self.now.heads.items in let names = names_of heads in let name = c.name_in.result in
      let count = names_length (λ (v : Checked). v.section.name) heads ∙ long in
      let all : names_of (heads ++ c.in_ok-head.head ∷ []) ≡ names ++ name ∷ [] = names_push (λ (v : Checked). v.section.name) heads c.in_ok-head.head ∙ ap (λ n. names ++ n ∷ []) (sym c.name_in.ensures) in
      rw (w.result-is, w.in-Ok-push-2.ensures.items, all)
      (c.in-Ok-put.ensures names (names ++ name ∷ []) is (subst (λ n. get_or names n None ≡ None) count (none_behind names)) (subst (λ n. PutsAt names n name (names ++ name ∷ [])) count (push_head names name)))
  | in-Err-push w ↦ rw w.result-is tt
]

pub returns-in_err-head-clause-refused : goal.returns-in_err-head-clause-refused
returns-in_err-head-clause-refused g c = λ starts lefts m same inside.
    let left = g.R.Source.left c.args.source.now in
    stops_so _ (IsMergeFaultOf starts) c.from_residual.result c.in_err-head.field-0.0 c.from_residual.ensures
    (of_feed starts c.args.index left c.in_err-head.field-0.0 inside same (c.in_err-head.ensures.refused left [] unread (c.in-Ok.ensures left)))

pub returns-in_err-self-clause-refused : goal.returns-in_err-self-clause-refused
returns-in_err-self-clause-refused g c = λ starts lefts m same inside.
    let left = g.R.Source.left c.args.source.now in
    let next = c.in_ok-head.ensures.next left [] unread (c.in-Ok.ensures left) in
    let told = told_next left (g.R.Source.left c.next.new.source) c.next.new.self next.0 unread next.1 c.in_ok-head.head next.2 next.3 next.4 in
    let by = c.profile.ensures _ _ _ _ next.2 in
    let refused = c.in_err-self.ensures.refused in
    stops_so _ (IsMergeFaultOf starts) c.from_residual-in_err-self.result c.in_err-self.field-0.0 c.from_residual-in_err-self.ensures
    (subst (IsMergeFaultOf starts) (sym refused.0) (
      inside,
      (
        c.args.self.now.profile,
        c.profile.result,
        tells_profile c.args.index starts lefts c.args.self.now.feeds.items c.args.self.now.heads.items c.args.self.now.profile [] m 0 refused.1,
        subst (λ start. HasToldProfile start c.profile.result) (sym same) (subst (HasToldProfile left) (sym by) told),
        refused.2,
      ),
    ))
