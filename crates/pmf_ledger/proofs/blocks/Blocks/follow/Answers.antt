use Rattle.std.proofs.Common.{sym, ◌∙◌, subst}
use Rattle.pmf_ledger.{specs.Following.{Reaches, StandsFor}, specs.Loading.{after_line_at}, proofs.lemmas.ReadingLemmas.{own_profile, stopped, line-at}}
use Rattle.pmf_ledger.proofs.blocks.Blocks.follow.Goals as goal

pub returns-in-Version-clause-reaches : goal.returns-in-Version-clause-reaches
unfolding after_line_at
returns-in-Version-clause-reaches c = λ r here.
    let stands = subst (StandsFor r c.args.self.now) c.in-Version.is here in
    subst (λ e. Reaches e c.version.result c.version.new.self) (sym (line-at r c.args.line c.args.text.now _ stands.1.0)) (c.version.ensures.reaches r stands.0 stands.1.1)

pub returns-in-Block-clause-reaches : goal.returns-in-Block-clause-reaches
unfolding after_line_at
returns-in-Block-clause-reaches c = λ r here.
    let stands = subst (StandsFor r c.args.self.now) c.in-Block.is here in
    subst (λ e. Reaches e c.block.result c.block.new.self) (sym (line-at r c.args.line c.args.text.now _ stands.1)) (c.block.ensures.reaches r stands.0)

pub returns-in-Events-clause-reaches : goal.returns-in-Events-clause-reaches
unfolding after_line_at
returns-in-Events-clause-reaches c = λ r here.
    let stands = subst (StandsFor r c.args.self.now) c.in-Events.is here in
    subst (λ e. Reaches e c.event.result c.event.new.self) (sym (line-at r c.args.line c.args.text.now _ stands.1.0)) (c.event.ensures.reaches r stands.0)

pub returns-in-Rows-clause-reaches : goal.returns-in-Rows-clause-reaches
unfolding after_line_at
returns-in-Rows-clause-reaches c = λ r here.
    let stands = subst (StandsFor r c.args.self.now) c.in-Rows.is here in
    subst (λ e. Reaches e c.row.result c.row.new.self) (sym (line-at r c.args.line c.args.text.now _ stands.1.0)) (c.row.ensures r stands.0)

pub returns-in-End-clause-reaches : goal.returns-in-End-clause-reaches
unfolding after_line_at
returns-in-End-clause-reaches c = λ r here of_text.
    let stands = subst (StandsFor r c.args.self.now) c.in-End.is here in stopped r c.args.self.now stands.0 _ _ (line-at r c.args.line c.args.text.now _ stands.1)

pub row-requires-clause-profile : goal.row-requires-clause-profile
row-requires-clause-profile c =
    let r = c.requires.stands.0 in
    let stands = subst (StandsFor r c.args.self.now) c.in-Rows.is c.requires.stands.1 in stands.1.1 ∙ sym (own_profile r c.args.self.now stands.0)
