use Rattle.std.proofs.Common.{suc, ◌+◌, [], length, ◌++◌, map, ◌∙◌, ap, subst, add-one}
use Rattle.std.proofs.lemmas.List.{append-nil}
use Rattle.pmf_event.specs.{FlushWarnings.{if_any}}
use Rattle.pmf_verdict.{specs.Walks.{Walks}, specs.declared.checking.Walk.{Walk}, specs.Rows.{row_at, rows_upto, rows_at_end, rows_of}, proofs.WalkLemmas.{if_any-as_told-same}}
use Rattle.pmf_verdict.proofs.checking.Checker.rows.Goals as goal

pub returns : goal.returns
unfolding rows_of rows_at_end
returns c = λ profile es has front.
    let all = c.args.events.now in
    let checked = c.in_ok-walk.ensures profile es has front in
    let walk = c.in_ok-walk.field-0.walk in
    let walks = subst (λ n. Walks walk all n) checked.walked.1 (subst (λ xs. Walks walk xs c.in_ok-walk.field-0.walked) (append-nil all) (checked.walked.0 [])) in
    let found = c.close_section-found.result in
    c.shrink_to_fit.ensures
    ∙ ap (λ (w : Walk). w.rows) c.in_ok-push_if_any.ensures
    ∙ ap (λ rs. rs ++ map (row_at (c.len.result + 1)) (if_any found))
    (walks.rows_are ∙ ap (λ q. rows_upto q all (length all)) checked.profile_is)
    ∙ ap (λ q. rows_upto profile all (length all) ++ map (row_at (q + 1)) (if_any found)) c.len.ensures.value
    ∙ ap (λ q. rows_upto profile all (length all) ++ map (row_at q) (if_any found)) (add-one (length all))
    ∙ ap (λ f. rows_upto profile all (length all) ++ map (row_at (suc (length all))) (if_any f))
    (c.close_section-found.ensures (λ k. k) all (length all) walks.tracks ∙ if_any-as_told-same _)
