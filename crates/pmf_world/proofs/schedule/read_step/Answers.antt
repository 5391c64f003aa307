-- The words are those of the definition, taken off one by one.
use Rattle.std.proofs.{Common.{sym, ap, ◌∙◌, rules, tests}, lemmas.Iterator.Splits.{YieldsList-from_slice_split}}
use Rattle.pmf_world.{specs.Schedule.{is_blank, number_of, step_of_one, step_of_two}, proofs.lemmas.ScheduleLineLemmas.{taken, over, one_word, two_words, three_words, more_words}}
use Rattle.pmf_world.proofs.schedule.read_step.Goals as goal

pub returns-in_err-first : goal.returns-in_err-first
returns-in_err-first c =
    let word =
    taken c.split-words.result _ c.in_ok-word.word c.next.new.self c.in_ok-word.ensures.steps
    (YieldsList-from_slice_split {s = c.split-words.result} _ is_blank c.args.line.now c.split-words.ensures.rest c.split-words.ensures.done c.split-words.ensures.closure (λ x r q k. search (rules, tests))) in
    let none = over c.next.new.self word.rest c.next-2.new.self c.in_err-first.ensures.steps word.left in
    c.from_residual-in_err-first.ensures ∙ sym (one_word c.args.line.now c.in_ok-word.word.now word.rest word.whole none)

pub returns-in-None : goal.returns-in-None
returns-in-None c =
    let word =
    taken c.split-words.result _ c.in_ok-word.word c.next.new.self c.in_ok-word.ensures.steps
    (YieldsList-from_slice_split {s = c.split-words.result} _ is_blank c.args.line.now c.split-words.ensures.rest c.split-words.ensures.done c.split-words.ensures.closure (λ x r q k. search (rules, tests))) in
    let first = taken c.next.new.self word.rest c.in_ok-first.first c.next-2.new.self c.in_ok-first.ensures.steps word.left in
    let none = over c.next-2.new.self first.rest c.next-3.new.self c.in-None.ensures.steps first.left in
    c.step_of_one.ensures ∙ ap (step_of_one c.in_ok-word.word.now) c.read_number.ensures ∙ sym (two_words c.args.line.now c.in_ok-word.word.now word.rest word.whole c.in_ok-first.first.now first.rest first.whole none)

pub returns-in-None-next : goal.returns-in-None-next
returns-in-None-next c =
    let word =
    taken c.split-words.result _ c.in_ok-word.word c.next.new.self c.in_ok-word.ensures.steps
    (YieldsList-from_slice_split {s = c.split-words.result} _ is_blank c.args.line.now c.split-words.ensures.rest c.split-words.ensures.done c.split-words.ensures.closure (λ x r q k. search (rules, tests))) in
    let first = taken c.next.new.self word.rest c.in_ok-first.first c.next-2.new.self c.in_ok-first.ensures.steps word.left in
    let second = taken c.next-2.new.self first.rest c.in-Some.second c.next-3.new.self c.in-Some.ensures.steps first.left in
    let none = over c.next-3.new.self second.rest c.next-in-Some.new.self c.in-None-next.ensures.steps second.left in
    c.step_of_two.ensures ∙ ap (λ n. step_of_two c.in_ok-word.word.now n c.read_number-in-None-next-2.result) c.read_number-in-None-next.ensures
    ∙ ap (step_of_two c.in_ok-word.word.now (number_of c.in_ok-first.first.now)) c.read_number-in-None-next-2.ensures
    ∙ sym (three_words c.args.line.now c.in_ok-word.word.now word.rest word.whole c.in_ok-first.first.now first.rest first.whole c.in-Some.second.now second.rest second.whole none)

pub returns-in-Some-next : goal.returns-in-Some-next
returns-in-Some-next c =
    let word =
    taken c.split-words.result _ c.in_ok-word.word c.next.new.self c.in_ok-word.ensures.steps
    (YieldsList-from_slice_split {s = c.split-words.result} _ is_blank c.args.line.now c.split-words.ensures.rest c.split-words.ensures.done c.split-words.ensures.closure (λ x r q k. search (rules, tests))) in
    let first = taken c.next.new.self word.rest c.in_ok-first.first c.next-2.new.self c.in_ok-first.ensures.steps word.left in
    let second = taken c.next-2.new.self first.rest c.in-Some.second c.next-3.new.self c.in-Some.ensures.steps first.left in
    let third = taken c.next-3.new.self second.rest c.in-Some-next.field-0 c.next-in-Some.new.self c.in-Some-next.ensures.steps second.left in
    sym (more_words c.args.line.now c.in_ok-word.word.now word.rest word.whole c.in_ok-first.first.now first.rest first.whole c.in-Some.second.now second.rest second.whole c.in-Some-next.field-0.now third.rest third.whole)
