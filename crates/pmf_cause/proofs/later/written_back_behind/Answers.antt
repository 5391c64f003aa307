use Rattle.std.proofs.{Common.{◌≡◌, ◌-◌, ◌<◌, suc, ◌+◌, length, get_or, ◌∙◌, ap, arith}, lemmas.List.{get_or_default, length_push}}
use Rattle.pmf_event.specs.{declared.finding.Finding.TheVariants.{PersistPass}, declared.row.Row.{Row}}
use Rattle.pmf_cause.{specs.Later.{asks_byte, behind_row}, proofs.ListLemmas.{one_more_asked}}
use Rattle.pmf_cause.proofs.later.written_back_behind.Goals as goal

abbrev none : Row
none = record { place = 0; finding = PersistPass }

pub behind-requires-clause-asks : goal.behind-requires-clause-asks
behind-requires-clause-asks c = let few = c.loop-left.invariant.few in c.requires.asks (c.loop-left.left - 1) none (omega arith)

pub behind-requires-clause-some : goal.behind-requires-clause-some
behind-requires-clause-some c = let few = c.loop-left.invariant.few in c.requires.order.some (c.loop-left.left - 1) none (omega arith)

pub behind-requires-clause-behind : goal.behind-requires-clause-behind
behind-requires-clause-behind c = let low = c.loop-left.invariant.behind (c.loop-left.left - 1) none (omega arith) in omega arith

pub loop-left-preserved : goal.loop-left-preserved
loop-left-preserved c =
    let es = c.args.events.now in
    let rows = c.args.rows.now in
    let n = length c.args.rows.now in
    let p = c.loop-left.left - 1 in
    let old = c.loop-left.found.items in
    let few = c.loop-left.invariant.few in
    let long = c.loop-left.invariant.long in
    let less : p < n = omega arith in
    let back = c.in_ok-behind.ensures.back in
    let low = c.in_ok-behind.ensures.behind in
    let most = c.requires.order.within p none less in
    let items = c.in_ok-push.ensures.items in
    record {
      few = omega arith;
      later = c.in_ok-behind.ensures.later;
      within = omega arith;
      behind = λ k r less_than.
          let rise = c.requires.order.rise k p r (omega arith) less in
          let own = ap (λ (x : Row). x.place) (get_or_default rows p none r less) in omega arith;
      long = ap length items ∙ length_push old c.in_ok-behind.field-0 ∙ (let more : length old + 1 ≡ n - p = omega arith in more);
      each = λ k d r from high asks. one_more_asked (λ j. asks_byte (get_or rows j r).finding) (λ j. behind_row es (get_or rows j r)) (λ j. n - suc j) p (n - 1) c.in_ok-behind.field-0 old c.push.new.self.items items (omega arith)
          (λ asked. c.in_ok-behind.ensures.found (ap (λ (x : Row). asks_byte x.finding) (get_or_default rows p none r less) ∙ asked) ∙ ap (behind_row es) (get_or_default rows p none r less))
          (λ j after top. omega arith) (λ j e after top asked. c.loop-left.invariant.each j e r (omega arith) (omega arith) asked) k d from (omega arith) asks;
    }
