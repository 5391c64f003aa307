use Rattle.std.proofs.{Common.{◌≡◌, ◌++◌, take, subst, rules, string_bytes, arith}, lemmas.Grind.{common_steps}}
use Rattle.pmf_world.{specs.Lines.{text_of_ledgers}, specs.Playing.{PlaysAll}, proofs.lemmas.SimulatingLemmas.{few_steps, refuses_numbers, simulated}}
use Rattle.pmf_world.proofs.simulating.sim_text.Goals as goal

pub returns-in-Err-new : goal.returns-in-Err-new
returns-in-Err-new c = grind (arith, common_steps, refuses_numbers)

pub play_all-requires : goal.play_all-requires
play_all-requires c = grind (arith, common_steps, few_steps)

pub returns : goal.returns
returns c =
    let lines = string_bytes c.in_ok-lines.lines in
    let played = subst (λ ss. PlaysAll c.in-Ok-new.world ss c.play_all.new.world lines) c.deref.ensures.value c.in_ok-lines.ensures in
    let is : c.push_ledgers.new.text.items ≡ lines ++ text_of_ledgers 0 (take c.args.ledgers c.play_all.new.world.ledgers) = search rules in
    simulated c.args.log.now c.args.schedule.now c.args.workers c.args.ledgers c.in-Ok.steps.items c.in-Ok-read_log.read _
    c.in-Ok-new.world c.play_all.new.world lines c.push_ledgers.new.text.items
    c.in-Ok.ensures c.in-Ok-read_log.ensures c.sections.ensures c.in-Ok-new.ensures.opening c.in-Ok-new.ensures.made played is
