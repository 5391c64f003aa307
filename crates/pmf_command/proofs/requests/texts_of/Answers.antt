use Rattle.std.proofs.{Common.{ℕ, List, [], ◌∷◌, ◌++◌, map, take, get_or, Bor, sym, ap, ◌∙◌, subst, arith, take_all}, lemmas.List.{map-append, take_more}}
use Rattle.pmf_ledger.specs.declared.loading.TheConstants.{LEDGER_LIMIT}
use Rattle.pmf_command.{specs.Answered.{AreRead, IsReadOf}, proofs.JoinedLemmas.{each-push}}
use Rattle.pmf_command.proofs.requests.texts_of.Goals as goal

pub loop-name-preserved : goal.loop-name-preserved
loop-name-preserved g c =
    let files = g.F.Shelf.bytes c.args.shelf.now in
    let names = c.args.names.now in
    let none : Bor (List ℕ) = record { ref_ptr = (0, 0); now = [] } in
    let name = get_or names c.loop-name.name-index none in
    let before = take c.loop-name.name-index names in
    let named = ap (map (λ n. n.now)) (take_more names c.loop-name.name-index none (omega (arith, c.loop-name-test.true))) ∙ map-append (λ n. n.now) before (name ∷ []) in
    let texts = ap (map (λ t. t.items)) c.in-Ok-push.ensures.items ∙ map-append (λ t. t.items) c.loop-name.texts.items (c.in-Ok.text ∷ []) in
    subst (λ ns. AreRead LEDGER_LIMIT files ns (map (λ t. t.items) c.push.new.self.items)) (sym named)
    (subst (λ ts. AreRead LEDGER_LIMIT files (map (λ n. n.now) before ++ name.now ∷ []) ts) (sym texts)
    (each-push (λ n t. IsReadOf LEDGER_LIMIT (files n) t) (map (λ n. n.now) before) (map (λ t. t.items) c.loop-name.texts.items) name.now c.in-Ok.text.items c.loop-name.invariant c.in-Ok.ensures))

pub returns-clause-read : goal.returns-clause-read
returns-clause-read g c =
    subst (λ names. AreRead LEDGER_LIMIT (g.F.Shelf.bytes c.args.shelf.now) (map (λ name. name.now) names) (map (λ text. text.items) c.loop-name.texts.items))
    (take_all c.loop-name.name-index c.args.names.now c.loop-name-test.false) c.loop-name.invariant
