use Rattle.std.proofs.Common.{◌≡◌, refl, sym, ◌∙◌, ap, Some}
use Rattle.pmf_event.specs.Order.{paired, with_partner}
use Rattle.pmf_shadow.specs.Bytes.{passing, keyed}
use Rattle.pmf_shadow.{specs.States.{kept_opening, checked_store}, specs.Pairs.{kept, by_epochs}, proofs.PieceLemmas.{least-of_span}, proofs.UnorderedLemmas.{epochs-found, epochs-partner}}
use Rattle.pmf_shadow.proofs.shadow.Shadow.least_by_epochs.Goals as goal

pub returns-in_err-byte : goal.returns-in_err-byte
unfolding keyed kept passing
returns-in_err-byte c =
    let b = c.args.b.now in
    let m = c.in_ok-epoch.epoch in
    let least = least-of_span (keyed kept_opening c.args.self.now.bytes) b c.first.result c.end.result (Some m) c.first.ensures.value c.end.ensures.value (sym c.in_ok-epoch.was ∙ c.least_key.ensures) in
    c.from_residual-in_err-byte.ensures
    ∙ sym (epochs-found (kept c.args.self.now.bytes) c.args.a.now b m least _ (λ x. refl) ∙ ap (with_partner (by_epochs (kept c.args.self.now.bytes)) b) (sym c.first_in.ensures ∙ c.in_err-byte.was))

pub returns : goal.returns
unfolding keyed kept passing
returns c =
    let b = c.args.b.now in
    let m = c.in_ok-epoch.epoch in
    let x = c.in_ok-byte.byte in
    let k = c.in_ok-stored.stored in
    let least = least-of_span (keyed kept_opening c.args.self.now.bytes) b c.first.result c.end.result (Some m) c.first.ensures.value c.end.ensures.value (sym c.in_ok-epoch.was ∙ c.least_key.ensures) in
    let own : kept c.args.self.now.bytes x ≡ Some k = sym (c.checked.ensures ∙ ap checked_store c.at.ensures) ∙ c.in_ok-stored.was in
    c.paired.ensures ∙ sym (epochs-found (kept c.args.self.now.bytes) c.args.a.now b m least _ (λ x. refl) ∙ ap (with_partner (by_epochs (kept c.args.self.now.bytes)) b) (sym c.first_in.ensures ∙ c.in_ok-byte.was)
    ∙ ap (paired x) (epochs-partner (kept c.args.self.now.bytes) b x k own _ (λ y. refl) ∙ sym c.first_in-2.ensures))
