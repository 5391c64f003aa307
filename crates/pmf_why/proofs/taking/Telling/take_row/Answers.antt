use Rattle.std.proofs.Common.{refl, sym, ◌∙◌}
use Rattle.pmf_why.proofs.RowsLemmas.{rows_new, rows_old}
use Rattle.pmf_why.proofs.taking.Telling.take_row.Goals as goal

pub returns-then-not-is_new-clause-rows : goal.returns-then-not-is_new-clause-rows
returns-then-not-is_new-clause-rows c = λ asked before has. rows_old asked before c.args.self.now has _ c.of-kind.result c.of-kind.ensures _ refl c.in_ok-push.ensures.items (sym c.is_new.ensures ∙ c.if-not-is_new.true) refl

pub returns-clause-rows : goal.returns-clause-rows
returns-clause-rows c = λ asked before has. rows_new asked before c.args.self.now has _ c.of-kind.result c.of-kind.ensures _ refl c.in_ok-push-3.ensures.items (sym c.is_new.ensures ∙ c.if-not-is_new.false) _ c.in_ok-push-2.ensures.items (record {
  kind = c.of-kind.ensures;
  name = c.name-name.ensures;
  row = refl;
  tells = record { edits = c.args.own.now; way = c.in_ok-way.way; is = c.in_ok-way.ensures; says = c.in_ok-text.ensures };
})
