use Rattle.std.proofs.Common.{◌≡◌, length, sym, ◌∙◌, ap, subst, List}
use Rattle.pmf_event.specs.declared.row.Row.{Row}
use Rattle.pmf_verdict.specs.{Checked.{Checked, rows_in}, Rows.{rows_of}}
use Rattle.pmf_ledger.{specs.Following.{Reaches}, specs.Loading.{with_rows}, proofs.lemmas.ReadingLemmas.{stopped, own_profile, rows-false, rows_told, verdict_is}}
use Rattle.pmf_ledger.proofs.blocks.Blocks.with_section.Goals as goal

pub returns-else-rows-told : goal.returns-else-rows-told
returns-else-rows-told c = λ r read of_text.
    let is = verdict_is c.args.section c.in-Ok.section.value c.profile.result c.args.self.now.pile.last.profile r.profile c.in-Ok-check.verdict c.in-Ok-check.ensures.checked c.in-Ok.ensures.ok c.profile.ensures (own_profile r c.args.self.now read) in
    let all : c.rows.result.now ≡ rows_of r.profile c.args.section.events = c.rows.ensures.value ∙ ap rows_in is in rw c.name-name.ensures
    (stopped r c.args.self.now read _ _ (rows-false r c.args.section c.args.told (λ same. c.if-rows-told.false (ap (λ (rows : List Row). length rows) all ∙ same))))

pub returns-then-rows-told : goal.returns-then-rows-told
returns-then-rows-told c = λ r read.
    let is = verdict_is c.args.section c.in-Ok.section.value c.profile.result c.args.self.now.pile.last.profile r.profile c.in-Ok-check.verdict c.in-Ok-check.ensures.checked c.in-Ok.ensures.ok c.profile.ensures (own_profile r c.args.self.now read) in
    let all : c.rows.result.now ≡ rows_of r.profile c.args.section.events = c.rows.ensures.value ∙ ap rows_in is in
    let same = rows_told r c.args.section c.args.told (sym (ap (λ (rows : List Row). length rows) all) ∙ c.if-rows-told.true) in
    subst (λ e. Reaches e c.with_rows.result c.with_rows.new.self) (sym same)
    (subst (λ (v : Checked). Reaches (with_rows r v.section (rows_in v)) c.with_rows.result c.with_rows.new.self) is (c.with_rows.ensures r read))
