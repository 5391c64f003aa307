-- The text lines are those of the definition, read one by one.
use Rattle.std.{proofs.Common.{◌≡◌, ◌++◌, ◌∷◌, [], ◌∙◌, true, length, map, arith, sym, ap, subst, rules, tests}, specs.List.{slice_split}, proofs.lemmas.Bool.Decides.{nat_tests}, proofs.lemmas.List.{length_push, map-append}, proofs.lemmas.Iterator.Consumers.{YieldsList-turn, YieldsList-end}, proofs.lemmas.Iterator.Splits.{YieldsList-from_slice_split}}
use Rattle.pmf_command.{specs.Answered.{is_filled, is_line_end}, proofs.NamesLemmas.{AreNamed, AreNamed-all, AreNamed-empty, AreNamed-more, not_all, not_all-names}}
use Rattle.pmf_command.proofs.list.all_names.Goals as goal

pub loop-line-preserved-then-is_empty : goal.loop-line-preserved-then-is_empty
loop-line-preserved-then-is_empty c =
    let turn =
    YieldsList-turn (YieldsList-from_slice_split {s = c.into_iter-line-iterator.result} _ is_line_end c.args.list.now (cc) (cc) (cc) (λ x r q k. search (rules, tests)))
    c.loop-line.yielded _ c.loop-line.yielded_by _ _ c.in-Some.line c.in-Some.is c.next.ensures.steps in
    let words = map (λ name. name.now) c.args.words.now in
    let lines = slice_split is_line_end c.args.list.now in
    let names = map (λ name. name.now) c.loop-line.names.items in
    let none : length c.in-Some.line.now ≡ 0 = grind (arith, nat_tests) in
    subst (λ n. AreNamed words lines n names) (sym (length_push c.loop-line.yielded c.in-Some.line))
    (AreNamed-empty words lines (length c.loop-line.yielded) names c.loop-line.invariant c.in-Some.line.now turn.0 turn.1 none)

pub loop-line-preserved : goal.loop-line-preserved
loop-line-preserved c =
    let turn =
    YieldsList-turn (YieldsList-from_slice_split {s = c.into_iter-line-iterator.result} _ is_line_end c.args.list.now (cc) (cc) (cc) (λ x r q k. search (rules, tests)))
    c.loop-line.yielded _ c.loop-line.yielded_by _ _ c.in-Some.line c.in-Some.is c.next.ensures.steps in
    let words = map (λ name. name.now) c.args.words.now in
    let lines = slice_split is_line_end c.args.list.now in
    let names = map (λ name. name.now) c.loop-line.names.items in
    let line = c.in-Some.line.now in
    let some : is_filled line ≡ true = grind (arith, nat_tests) in
    let pushed = ap (map (λ name. name.now)) c.in_ok-push-in-Ok.ensures.items ∙ map-append (λ name. name.now) c.loop-line.names.items (c.in-Ok.name ∷ []) ∙ ap (λ n. names ++ n ∷ []) c.in-Ok.ensures.cases.0 in
    subst (AreNamed words lines (length (c.loop-line.yielded ++ c.in-Some.line ∷ []))) (sym pushed)
    (subst (λ n. AreNamed words lines n (names ++ line ∷ [])) (sym (length_push c.loop-line.yielded c.in-Some.line))
    (AreNamed-more words lines (length c.loop-line.yielded) names c.loop-line.invariant line turn.0 turn.1 some c.in-Ok.ensures.cases.1))

pub returns-in-Err : goal.returns-in-Err
returns-in-Err c =
    let turn =
    YieldsList-turn (YieldsList-from_slice_split {s = c.into_iter-line-iterator.result} _ is_line_end c.args.list.now (cc) (cc) (cc) (λ x r q k. search (rules, tests)))
    c.loop-line.yielded _ c.loop-line.yielded_by _ _ c.in-Some.line c.in-Some.is c.next.ensures.steps in
    let words = map (λ name. name.now) c.args.words.now in
    let lines = slice_split is_line_end c.args.list.now in
    let line = c.in-Some.line.now in
    let some : is_filled line ≡ true = grind (arith, nat_tests) in
    not_all-names c.args.list.now
    (not_all words lines (length c.loop-line.yielded) (map (λ name. name.now) c.loop-line.names.items) c.loop-line.invariant line turn.0 turn.1 some c.in-Err.ensures.cases.0)

pub returns : goal.returns
returns c =
    let over =
    YieldsList-end (YieldsList-from_slice_split {s = c.into_iter-line-iterator.result} _ is_line_end c.args.list.now (cc) (cc) (cc) (λ x r q k. search (rules, tests)))
    c.loop-line.yielded _ c.loop-line.yielded_by _ _ c.in-None.is c.next.ensures.steps in
    AreNamed-all (map (λ name. name.now) c.args.words.now) c.args.list.now (length c.loop-line.yielded) (map (λ name. name.now) c.loop-line.names.items) c.loop-line.invariant over.1
