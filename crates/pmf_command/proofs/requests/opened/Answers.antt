use Rattle.std.proofs.{Common.{ℕ, List, [], ◌∷◌, ◌++◌, All, map, take, get_or, Bor, sym, ap, ◌∙◌, subst, arith, take_all}, lemmas.List.{map-append, take_more}, lemmas.List.Elements.{All-push}}
use Rattle.pmf_device.specs.Failures.{CanCountOneMore}
use Rattle.pmf_command.{specs.Answered.{AreOpened, IsFileOf}, proofs.JoinedLemmas.{each-push}}
use Rattle.pmf_command.proofs.requests.opened.Goals as goal

pub loop-name-preserved : goal.loop-name-preserved
loop-name-preserved g c =
    let files = g.F.Shelf.bytes c.args.shelf.now in
    let left = g.F.File.Source.left in
    let names = c.args.names.now in
    let none : Bor (List ℕ) = record { ref_ptr = (0, 0); now = [] } in
    let name = get_or names c.loop-name.name-index none in
    let before = take c.loop-name.name-index names in
    let named = ap (map (λ n. n.now)) (take_more names c.loop-name.name-index none (omega (arith, c.loop-name-test.true))) ∙ map-append (λ n. n.now) before (name ∷ []) in
    let lefts = ap (map left) c.in-Ok-push.ensures.items ∙ map-append left c.loop-name.sources.items (c.in-Ok.source ∷ []) in
    record {
      opened =
          subst (λ ns. AreOpened files ns (map left c.push.new.self.items)) (sym named)
          (subst (λ ls. AreOpened files (map (λ n. n.now) before ++ name.now ∷ []) ls) (sym lefts)
          (each-push (λ n l. IsFileOf (files n) l) (map (λ n. n.now) before) (map left c.loop-name.sources.items) name.now (left c.in-Ok.source) c.loop-name.invariant.opened c.in-Ok.ensures.known));
      fresh =
          let fresh = c.in-Ok.ensures.fresh in
          subst (All (λ s. CanCountOneMore (g.F.File.Device.failed_calls s))) (sym c.in-Ok-push.ensures.items)
          (All-push (λ s. CanCountOneMore (g.F.File.Device.failed_calls s)) c.loop-name.sources.items c.in-Ok.source c.loop-name.invariant.fresh (omega (arith, fresh)));
    }

pub returns-clause-opened : goal.returns-clause-opened
returns-clause-opened g c =
    subst (λ names. AreOpened (g.F.Shelf.bytes c.args.shelf.now) (map (λ name. name.now) names) (map g.F.File.Source.left c.loop-name.sources.items))
    (take_all c.loop-name.name-index c.args.names.now c.loop-name-test.false) c.loop-name.invariant.opened
