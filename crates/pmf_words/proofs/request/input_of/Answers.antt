use Rattle.std.proofs.Common.{◌∙◌, ap, sym, option_map, codes}
use Rattle.clap.{specs.Words.{found_of}, proofs.WalkLemmas.{first_value-rows}}
use Rattle.pmf_words.proofs.request.input_of.Goals as goal

pub returns-in-Some : goal.returns-in-Some
returns-in-Some c = sym (first_value-rows (found_of c.args.matches.now) (codes "log")) ∙ sym c.get_str.ensures ∙ ap (option_map (λ s. s.now)) c.in-Some.is

pub returns-in-None : goal.returns-in-None
returns-in-None c = sym (first_value-rows (found_of c.args.matches.now) (codes "log")) ∙ sym c.get_str.ensures ∙ ap (option_map (λ s. s.now)) c.in-None.is
