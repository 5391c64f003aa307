use Rattle.std.{proofs.Common.{◌-◌, ◌++◌, ◌∙◌, ap, length, filter, flat_map}, specs.Option.{option_map}}
use Rattle.pmf_query.{specs.AllExplained.{fails, first_of}, specs.Asking.{text_if_failed}, proofs.FirstLemmas.{count_so, section_so}}
use Rattle.pmf_query.proofs.explaining.verdict_text.Goals as goal

pub returns-clause-left : goal.returns-clause-left
returns-clause-left c =
    let v = c.args.verdict.now in
    c.front_of-rows.ensures.left ∙ ap (λ rows. option_map (λ n. n - length (filter fails rows)) c.args.left.now) c.rows.ensures.value
    ∙ ap (λ k. option_map (λ n. n - k) c.args.left.now) (count_so v.profile v.section)

pub returns-clause-text : goal.returns-clause-text
returns-clause-text c =
    let v = c.args.verdict.now in
    let t = v.section in
    c.in_ok-push_failures.ensures ∙ ap (λ bs. bs ++ flat_map (text_if_failed t.name t.events) c.front_of-rows.result.now) c.new-text.ensures.bytes
    ∙ section_so v.profile t c.args.left.now c.front_of-rows.result.now (c.front_of-rows.ensures.front ∙ ap (λ rows. first_of c.args.left.now (filter fails rows)) c.rows.ensures.value)
