use Rattle.std.proofs.Common.{rules, ◌≡◌, ◌%◌, false, is_some, subst}
use Rattle.pmf_board.{specs.Calls.{PassesOver, PassesOverAll}, proofs.lemmas.CallLemmas.{Stays-both, Takes-after, passes-round, all-round, IfSome-then, IfNone-of, IfNone-then}}
use Rattle.pmf_board.proofs.board.Board.take_from.Goals as goal

pub returns-clause-some : goal.returns-clause-some
returns-clause-some c =
    let none : is_some c.take_between-taken.result ≡ false = search rules in
    let told = IfNone-of c.take_between-taken.result none c.take_between-taken.ensures.none in
    IfSome-then c.take_between.result (λ t takes. Takes-after _ _ _ _ _ told.0 takes.0) c.take_between.ensures.some

pub returns-clause-passed : goal.returns-clause-passed
returns-clause-passed c =
    let none : is_some c.take_between-taken.result ≡ false = search rules in
    let told = IfNone-of c.take_between-taken.result none c.take_between-taken.ensures.none in
    let n : c.self.inside.sections ≡ c.args.self.now.words = search rules in
    IfSome-then c.take_between.result
    (λ t takes. subst (λ k. PassesOver c.args.limit k c.args.start t.section c.take_between.new.pass.view) n
    (passes-round c.args.limit c.self.inside.sections (c.args.start % c.self.inside.sections) t.section _ _ takes.0.never_falls takes.2 told.1 takes.3))
    c.take_between.ensures.some

pub returns-clause-none : goal.returns-clause-none
returns-clause-none c =
    let none : is_some c.take_between-taken.result ≡ false = search rules in
    let told = IfNone-of c.take_between-taken.result none c.take_between-taken.ensures.none in
    IfNone-then c.take_between.result (λ more. Stays-both _ _ _ told.0 more.0) c.take_between.ensures.none

pub returns-clause-all : goal.returns-clause-all
returns-clause-all c =
    let none : is_some c.take_between-taken.result ≡ false = search rules in
    let told = IfNone-of c.take_between-taken.result none c.take_between-taken.ensures.none in
    let n : c.self.inside.sections ≡ c.args.self.now.words = search rules in
    IfNone-then c.take_between.result
    (λ more. subst (λ k. PassesOverAll c.args.limit k c.take_between.new.pass.view) n
    (all-round c.args.limit c.self.inside.sections (c.args.start % c.self.inside.sections) _ _ more.0.never_falls told.1 more.1))
    c.take_between.ensures.none
