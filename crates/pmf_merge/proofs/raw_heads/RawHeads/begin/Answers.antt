use Rattle.std.proofs.{Common.{◌≡◌, ◌<◌, length, map, refl, sym, ◌∙◌, subst, arith, rules, None, get_or}, lemmas.List.{get_or-set_other, length-map, length-set, map-set}, lemmas.List.Elements.{All-set}}
use Rattle.pmf_device.{specs.Failures.{CanCountOneMore}, proofs.PageLemmas.{stops_so}}
use Rattle.pmf_event.specs.declared.profile.Profile.TheVariants.{One}
use Rattle.pmf_merge.{specs.Trusting.{IsTrustFaultOf}, proofs.lemmas.RawHeadsLemmas.{none_trusting}, proofs.lemmas.SourceLemmas.{left_at}}
use Rattle.pmf_merge.proofs.raw_heads.RawHeads.begin.Goals as goal

pub loop-index-init : goal.loop-index-init
loop-index-init g c = record {
  trusting = none_trusting _ _ c.new.result.items One c.new.ensures.items;
  waiting = rw c.new.ensures.items c.new-2.ensures;
  of_none = λ _. refl;
  counted = c.requires.counted;
  len = refl;
  rest = λ j _. refl;
  room = refl;
}

pub loop-index-preserved : goal.loop-index-preserved
loop-index-preserved g c =
    let so_far = c.loop-index.invariant in let i = c.loop-index.index in let sources = c.loop-index.sources.items in let left = g.R.Source.left in
    let all : i < length c.args.sources.now.items = search rules in
    let len = so_far.len in
    let inside : i < length sources = omega (arith, all, len) in
    let starts = map left c.args.sources.now.items in let lefts = map left sources in
    let at : get_or lefts i None ≡ left c.index_mut.result.now = left_at left sources i c.index_mut.result.now c.index_mut.ensures.value inside in
    let same : get_or starts i None ≡ left c.index_mut.result.now = sym (so_far.rest i (omega arith)) ∙ at in
    let long = length-map sources left in
    let moved = map-set left sources i c.add.new.source in
    record {
      trusting = rw moved (c.in_ok-add.ensures.added starts lefts so_far.trusting same (omega (arith, inside, long)));
      waiting = c.in_ok-add.ensures.waiting so_far.trusting.feeds_are so_far.waiting;
      of_none = λ none. absurd (omega (arith, none));
      counted = All-set (λ s. CanCountOneMore (g.R.Device.failed_calls s)) sources i c.add.new.source
          (rw c.in_ok-add.ensures.counted (subst (λ s. CanCountOneMore (g.R.Device.failed_calls s)) (sym c.index_mut.ensures.value) (so_far.counted i c.index_mut.result.now inside))) so_far.counted;
      len = length-set sources i c.add.new.source ∙ len;
      rest = λ j behind. rw moved (get_or-set_other lefts i j (left c.add.new.source) None (λ same_place. omega (arith, behind, same_place)) ∙ so_far.rest j (omega (arith, behind)));
      room = c.in_ok-add.ensures.room ∙ so_far.room;
    }

pub returns-in_err-add-clause-refused : goal.returns-in_err-add-clause-refused
returns-in_err-add-clause-refused g c =
    let so_far = c.loop-index.invariant in let i = c.loop-index.index in let sources = c.loop-index.sources.items in let left = g.R.Source.left in
    let all : i < length c.args.sources.now.items = search rules in
    let len = so_far.len in
    let inside : i < length sources = omega (arith, all, len) in
    let starts = map left c.args.sources.now.items in
    let same : get_or starts i None ≡ left c.index_mut.result.now = sym (so_far.rest i (omega arith)) ∙ left_at left sources i c.index_mut.result.now c.index_mut.ensures.value inside in
    let count = length-map c.args.sources.now.items left in
    stops_so _ (IsTrustFaultOf starts) c.from_residual.result c.in_err-add.field-0.0 c.from_residual.ensures
    (c.in_err-add.ensures.refused starts (map left sources) so_far.trusting same (omega (arith, all, count)))
