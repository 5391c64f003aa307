use Rattle.std.proofs.Common.{◌<◌, sym, subst, arith}
use Rattle.pmf_cut.{specs.Lost.{KnowsByte}, proofs.LostLemmas.{none-member, member-lies, member-within, none-known, none-past}}
use Rattle.pmf_cut.proofs.lost.Past.first_past.Goals as goal

pub returns-in-None-clause-lies : goal.returns-in-None-clause-lies
returns-in-None-clause-lies c = member-lies c.args.self.now c.args.first c.args.end c.first_where-member.result c.first_where-member.ensures

pub returns-in-None-clause-before : goal.returns-in-None-clause-before
returns-in-None-clause-before c = grind (arith, none-past, none-member)

pub returns-in-None-stored_from-clause-lies : goal.returns-in-None-stored_from-clause-lies
returns-in-None-stored_from-clause-lies c = member-lies c.args.self.now c.args.first c.args.end c.first_where-member.result c.first_where-member.ensures

pub returns-in-None-stored_from-clause-before : goal.returns-in-None-stored_from-clause-before
returns-in-None-stored_from-clause-before c =
    none-past c.args.self.now c.args.first _ (none-member c.args.self.now c.args.first c.args.end c.first_where-member.result c.first_where-member.ensures)
    (λ b low high known. none-known c.in-Some.part c.args.first c.unwrap_or.result c.in-None-stored_from.ensures.stored b low (subst (λ n. b < n) (sym c.unwrap_or.ensures) high) (subst (λ o. KnowsByte o b) c.in-Some.is known))

pub returns-in-Some-stored_from-clause-lies : goal.returns-in-Some-stored_from-clause-lies
returns-in-Some-stored_from-clause-lies c =
    let lies = c.in-Some-stored_from.ensures.lie in let some = lies.some in let far = lies.within in let is = c.unwrap_or.ensures in
    let within = member-within c.first_where-member.result c.args.first c.args.end (member-lies c.args.self.now c.args.first c.args.end c.first_where-member.result c.first_where-member.ensures) in
    (lies.from, omega arith)

pub returns-in-Some-stored_from-clause-before : goal.returns-in-Some-stored_from-clause-before
returns-in-Some-stored_from-clause-before c =
    let lies = c.in-Some-stored_from.ensures.lie in let some = lies.some in let far = lies.within in let is = c.unwrap_or.ensures in
    none-past c.args.self.now c.args.first c.in-Some-stored_from.start
    (λ b low high. none-member c.args.self.now c.args.first c.args.end c.first_where-member.result c.first_where-member.ensures b low (omega arith))
    (λ b low high known. none-known c.in-Some.part c.args.first c.in-Some-stored_from.start (λ told es p stands. (c.in-Some-stored_from.ensures.stored told es p stands).before) b low high (subst (λ o. KnowsByte o b) c.in-Some.is known))
