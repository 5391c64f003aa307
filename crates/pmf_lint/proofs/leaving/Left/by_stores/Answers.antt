use Rattle.std.proofs.Common.{◌≡◌, ◌+◌, ◌∙◌, ◌∷◌, [], suc, Some, List, Bool, slice_index_or, length, length-append, sym, ap, subst, arith}
use Rattle.pmf_event.specs.Store.{event_at}
use Rattle.pmf_lint.{specs.Leaving.{is_left, is_left_unwritten, some_below}, proofs.LeavingLemmas.{marked_next}}
use Rattle.pmf_lint.proofs.leaving.Left.by_stores.Goals as goal

pub loop-index-preserved : goal.loop-index-preserved
loop-index-preserved c =
    let es = c.args.events.now in
    let p = c.loop-index.index in
    let place : c.loop-index.place + 1 ≡ suc p = omega (arith, c.loop-index.invariant.place) in
    let here = c.at.ensures.place in
    let items = c.in_ok-push.ensures.items in
    let items_too = c.in_ok-push-2.ensures.items in record {
      place = omega (arith, c.loop-index.invariant.place);
      long = omega (arith, ap (λ (bs : List Bool). length bs) items, length-append c.loop-index.all.items (c.left_by-one.result.0 ∷ []), c.loop-index.invariant.long);
      long_too = omega (arith, ap (λ (bs : List Bool). length bs) items_too, length-append c.loop-index.unwritten.items (c.left_by-one.result.1 ∷ []), c.loop-index.invariant.long_too);
      each = λ stands k d within.
          let found = c.left_by-one.ensures es stands (subst (λ q. event_at es q ≡ Some c.at.result) (sym place) here) in
          ap (λ (bs : List Bool). slice_index_or bs k d) items
          ∙ marked_next (λ q. some_below (is_left es q) 9223372036854775808) p c.loop-index.all.items c.left_by-one.result.0 c.loop-index.invariant.long (c.loop-index.invariant.each stands) (found.0 ∙ ap (λ q. some_below (is_left es q) 9223372036854775808) place) k d within;
      each_too = λ stands k d within.
          let found = c.left_by-one.ensures es stands (subst (λ q. event_at es q ≡ Some c.at.result) (sym place) here) in
          ap (λ (bs : List Bool). slice_index_or bs k d) items_too
          ∙ marked_next (λ q. some_below (is_left_unwritten es q) 9223372036854775808) p c.loop-index.unwritten.items c.left_by-one.result.1 c.loop-index.invariant.long_too (c.loop-index.invariant.each_too stands)
          (found.1 ∙ ap (λ q. some_below (is_left_unwritten es q) 9223372036854775808) place) k d within;
    }
