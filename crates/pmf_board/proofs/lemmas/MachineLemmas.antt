-- The board machine, and the words and views of a board.
use Rattle.std.proofs.{Common.{◌≡◌, ◌+◌, Bool, true, false, not, ltb, if◌then◌else◌, Some, None, map, set, refl, sym, ◌∙◌, ap, subst, arith}, lemmas.Bool.{ltb-true, not-true, and_parts}, lemmas.List.{map-set}, lemmas.Option.{same_Some, none-some, slice_get-get_or}, lemmas.Grind.{common_steps}}
use Rattle.pmf_board.{specs.declared.entry.Entry.{Entry}, specs.Machine.{untouched, entry_at, is_on_offer, handed_out, finished, hand_out, mark, taken}, specs.Views.{task, took, marked}, specs.Rule.{IsKept, word_of}, specs.Laws.{ChangesAreStepsOnWords, ChangesKeepTheRule, DoneIsFrozen}, proofs.lemmas.WordLemmas.{word-handed_out, word-finished}, proofs.lemmas.KeepLemmas.{IsKept-moves, Moves-took, Moves-marked, hand_out-stays, mark-stays}}

if_some : {X : Type 0} (b : Bool) (x y : X) → (if b then Some x else None) ≡ Some y → (b ≡ true) × (x ≡ y)
if_some b x y same = grind (arith, common_steps, same_Some, none-some)

pub steps_on_words : ChangesAreStepsOnWords
steps_on_words board s = (
  map-set word_of board s (handed_out e) ∙ ap (set (map word_of board) s) (word-handed_out e),
  (λ few. map-set word_of board s (finished e) ∙ ap (set (map word_of board) s) (sym (word-finished e few))),
)
  where
    e : Entry
    e = entry_at board s

pub done_is_frozen : DoneIsFrozen
done_is_frozen board s t within done = (
  (λ limit k after take.
      let is_some = if_some (is_on_offer limit e) (e.handouts + 1, hand_out board t) (k, after) (sym (ap (taken limit board t) (slice_get-get_or board t untouched within)) ∙ take) in
      let offer = and_parts (not e.done) (ltb e.handouts limit) is_some.0 in
      subst (λ p. entry_at p.1 s ≡ entry_at board s) is_some.1 (hand_out-stays board t within (not-true e.done offer.0) s done)),
  mark-stays board t within s done,
)
  where
    e : Entry
    e = entry_at board t

pub keep_the_rule : ChangesKeepTheRule
keep_the_rule board views id v is at holds s within = (
  (λ limit k after few take.
      let is_some = if_some (is_on_offer limit e) (e.handouts + 1, hand_out board s) (k, after) (sym (ap (taken limit board s) (slice_get-get_or board s untouched within)) ∙ take) in
      let offer = and_parts (not e.done) (ltb e.handouts limit) is_some.0 in
      let less = ltb-true e.handouts limit offer.1 in
      subst (λ p. IsKept p.1 (set views id (took v (task s p.0)))) is_some.1
      (IsKept-moves board (hand_out board s) views id v (took v (task s (e.handouts + 1))) is at (Moves-took board v s is.few (is.fits id v at) holds within (omega (arith, less, few)) (not-true e.done offer.0)))),
  IsKept-moves board (mark board s) views id v (marked v s e.handouts) is at (Moves-marked board v s is.few (is.fits id v at) holds within),
)
  where
    e : Entry
    e = entry_at board s
