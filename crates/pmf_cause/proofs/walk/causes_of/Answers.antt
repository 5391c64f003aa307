use Rattle.std.proofs.{Common.{◌≡◌, ◌+◌, ◌-◌, suc, length, get_or, map, take, [], ◌∷◌, ◌++◌, sym, subst, ◌∙◌, ap, arith, rules}, lemmas.List.{get_or_default, map-append, take_more}}
use Rattle.pmf_event.specs.{declared.finding.Finding.TheVariants.{PersistPass}, declared.row.Row.{Row}}
use Rattle.pmf_cause.specs.{Cause.{cause_of}, Later.{AllAsk, AreFences}}
use Rattle.pmf_cause.proofs.walk.causes_of.Goals as goal

abbrev none : Row
none = record { place = 0; finding = PersistPass }

pub loop-index-init : goal.loop-index-init
loop-index-init c =
    let at_start = c.new-past.ensures.place in
    record {
      past = c.new-past.ensures.past c.args.events.now;
      asks = subst (λ watch. AllAsk watch c.args.rows.now) (sym c.new-past.ensures.watch) c.in_ok-watch.ensures;
      before = λ r some. let first = c.requires.order.some 0 r some in omega arith;
      causes = c.in_ok-causes.ensures.items;
    }

pub cause_of-requires-clause-asks : goal.cause_of-requires-clause-asks
cause_of-requires-clause-asks c = c.loop-index.invariant.asks c.loop-index.index none c.loop-index-test.true

pub cause_of-requires-clause-within : goal.cause_of-requires-clause-within
cause_of-requires-clause-within c = c.requires.order.within c.loop-index.index none c.loop-index-test.true

pub cause_of-requires-clause-behind : goal.cause_of-requires-clause-behind
cause_of-requires-clause-behind c = λ asks.
    let rows = c.args.rows.now in
    let i = c.loop-index.index in
    let at_index : length rows - 1 - i ≡ length rows - suc i = omega arith in
    let d = c.index-written_back.result.now in
    c.index-written_back.ensures
    ∙ ap (λ k. get_or c.in_ok-behind.behind.items k d) at_index
    ∙ c.in_ok-behind.ensures.each i d none c.loop-index-test.true asks

pub cause_of-requires-clause-fences : goal.cause_of-requires-clause-fences
cause_of-requires-clause-fences c = λ asks.
    let same : c.deref.result.now ≡ c.in_ok-fences.fences.items = search rules in
    subst (AreFences c.args.events.now) (sym same) (c.in_ok-fences.ensures c.loop-index.index none c.loop-index-test.true asks)

pub loop-index-preserved : goal.loop-index-preserved
loop-index-preserved c =
    let es = c.args.events.now in
    let rows = c.args.rows.now in
    let i = c.loop-index.index in
    let row = get_or c.args.rows.now c.loop-index.index none in
    let within = c.loop-index-test.true in
    let place = c.in_ok-cause_of.ensures.place in
    record {
      past = c.in_ok-cause_of.ensures.past;
      asks = subst (λ watch. AllAsk watch rows) (sym c.in_ok-cause_of.ensures.watch) c.loop-index.invariant.asks;
      before = λ r more.
          let rise = c.requires.order.rise i (i + 1) r (omega arith) more in
          let same = ap (λ (x : Row). x.place) (get_or_default rows i none r within) in omega arith;
      causes = c.in_ok-push.ensures.items
          ∙ ap (λ xs. xs ++ c.in_ok-cause_of.field-0 ∷ []) c.loop-index.invariant.causes
          ∙ ap (λ x. map (cause_of es) (take i rows) ++ x ∷ []) c.in_ok-cause_of.ensures.is
          ∙ sym (map-append (cause_of es) (take i rows) (row ∷ []))
          ∙ ap (map (cause_of es)) (sym (take_more rows i none within));
    }
