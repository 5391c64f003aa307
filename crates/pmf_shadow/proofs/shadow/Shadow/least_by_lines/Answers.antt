use Rattle.std.proofs.Common.{◌≡◌, refl, sym, ◌∙◌, ap, subst, Some}
use Rattle.pmf_event.{specs.Order.{paired, with_partner}, proofs.RangeLemmas.{first-passes}}
use Rattle.pmf_shadow.specs.Bytes.{passing, keyed}
use Rattle.pmf_shadow.{specs.States.{kept_opening, kept_place, checked_store, late_for, has_one_by}, specs.Pairs.{kept, by_lines, on_line, IsLeastValue}, proofs.PieceLemmas.{least-of_span}, proofs.UnorderedLemmas.{lines-found-at, lines-partner-at, early-found, place-found, found-kept, opens-from}}
use Rattle.pmf_shadow.proofs.shadow.Shadow.least_by_lines.Goals as goal

pub returns-in_err-early : goal.returns-in_err-early
unfolding keyed kept passing
returns-in_err-early c =
    let b = c.args.b.now in
    let bytes = c.args.self.now.bytes in
    let m = c.in_ok-epoch.epoch in
    let least = least-of_span (keyed kept_opening bytes) b c.first.result c.end.result (Some m) c.first.ensures.value c.end.ensures.value (sym c.in_ok-epoch.was ∙ c.least_key.ensures) in
    λ told es p stands order. absurd (early-found (kept bytes) b m least _ (λ x. refl) (sym c.first_in.ensures ∙ c.in_err-early.was))

pub returns-in_err-first : goal.returns-in_err-first
unfolding keyed kept passing
returns-in_err-first c =
    let b = c.args.b.now in
    let bytes = c.args.self.now.bytes in
    let m = c.in_ok-epoch.epoch in
    let least = least-of_span (keyed kept_opening bytes) b c.first.result c.end.result (Some m) c.first.ensures.value c.end.ensures.value (sym c.in_ok-epoch.was ∙ c.least_key.ensures) in
    let early = c.in_ok-early.early in
    let here = first-passes _ b.first b.size early (sym c.first_in.ensures ∙ c.in_ok-early.was) in
    let opens = opens-from m (kept bytes early) here.passes in
    let none = subst (IsLeastValue (on_line c.line_of-line.result (keyed kept_place bytes)) b.first b.size) c.in_err-first.was c.least_place_on.ensures in
    λ told es p stands order. absurd (place-found (kept bytes) b m early c.line_of-line.result here.from here.within opens c.line_of-line.ensures none)

pub returns-in_err-byte : goal.returns-in_err-byte
unfolding keyed kept passing
returns-in_err-byte c =
    let b = c.args.b.now in
    let bytes = c.args.self.now.bytes in
    let m = c.in_ok-epoch.epoch in
    let least = least-of_span (keyed kept_opening bytes) b c.first.result c.end.result (Some m) c.first.ensures.value c.end.ensures.value (sym c.in_ok-epoch.was ∙ c.least_key.ensures) in
    let early = c.in_ok-early.early in
    let here = first-passes _ b.first b.size early (sym c.first_in.ensures ∙ c.in_ok-early.was) in
    let opens = opens-from m (kept bytes early) here.passes in
    let least_on = subst (IsLeastValue (on_line c.line_of-line.result (keyed kept_place bytes)) b.first b.size) c.in_ok-first.was c.least_place_on.ensures in
    λ told es p stands order. c.from_residual-in_err-byte.ensures ∙ sym (
    lines-found-at c.args.self.now told es p stands order c.args.ties c.args.a.now b m early c.line_of-line.result c.in_ok-first.first c.least_opening_off-elsewhere.result
    least here.from here.within opens c.line_of-line.ensures least_on c.least_opening_off-elsewhere.ensures _ _ (λ x. refl) (λ x. refl)
    ∙ ap (with_partner (by_lines c.args.ties (kept bytes)) b) (sym c.first_by_line.ensures.value ∙ c.in_err-byte.was))

pub returns-in_err-stored : goal.returns-in_err-stored
unfolding keyed kept passing
returns-in_err-stored c =
    let b = c.args.b.now in
    let bytes = c.args.self.now.bytes in
    let byte = first-passes _ c.args.a.now.first c.args.a.now.size c.in_ok-byte.byte (sym c.first_by_line.ensures.value ∙ c.in_ok-byte.was) in
    λ told es p stands order. absurd (found-kept c.line_of-line.result (has_one_by c.args.ties c.in_ok-first.first c.least_opening_off-elsewhere.result) (late_for c.in_ok-epoch.epoch) (kept bytes) _ _ (λ x. refl) (λ x. refl)
    c.in_ok-byte.byte byte.passes (sym (c.checked.ensures ∙ ap checked_store c.at.ensures) ∙ c.in_err-stored.was))

pub returns : goal.returns
unfolding keyed kept passing
returns c =
    let b = c.args.b.now in
    let bytes = c.args.self.now.bytes in
    let m = c.in_ok-epoch.epoch in
    let least = least-of_span (keyed kept_opening bytes) b c.first.result c.end.result (Some m) c.first.ensures.value c.end.ensures.value (sym c.in_ok-epoch.was ∙ c.least_key.ensures) in
    let early = c.in_ok-early.early in
    let here = first-passes _ b.first b.size early (sym c.first_in.ensures ∙ c.in_ok-early.was) in
    let opens = opens-from m (kept bytes early) here.passes in
    let least_on = subst (IsLeastValue (on_line c.line_of-line.result (keyed kept_place bytes)) b.first b.size) c.in_ok-first.was c.least_place_on.ensures in
    let x = c.in_ok-byte.byte in
    let k = c.in_ok-stored.stored in
    let own : kept bytes x ≡ Some k = sym (c.checked.ensures ∙ ap checked_store c.at.ensures) ∙ c.in_ok-stored.was in
    λ told es p stands order. c.paired.ensures ∙ sym (
    lines-found-at c.args.self.now told es p stands order c.args.ties c.args.a.now b m early c.line_of-line.result c.in_ok-first.first c.least_opening_off-elsewhere.result
    least here.from here.within opens c.line_of-line.ensures least_on c.least_opening_off-elsewhere.ensures _ _ (λ x. refl) (λ x. refl)
    ∙ ap (with_partner (by_lines c.args.ties (kept bytes)) b) (sym c.first_by_line.ensures.value ∙ c.in_ok-byte.was)
    ∙ ap (paired x) (lines-partner-at c.args.ties (kept bytes) b x c.line_of.result k own c.line_of.ensures _ _ (λ y. refl) (λ y. refl) ∙ sym c.first_by_line-after.ensures.value))
