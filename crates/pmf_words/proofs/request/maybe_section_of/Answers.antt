use Rattle.std.proofs.Common.{◌≡◌, ◌∙◌, ap, refl, sym, arith, codes, Option, Some, None, option_map}
use Rattle.clap.{specs.Words.{Text, found_of, first_of, rows_of}, proofs.WalkLemmas.{first_value-rows}}
use Rattle.pmf_words.proofs.RequestLemmas.{number-named}
use Rattle.pmf_words.proofs.request.maybe_section_of.Goals as goal

pub returns-in_ok-run-in-Some : goal.returns-in_ok-run-in-Some
returns-in_ok-run-in-Some c =
    let f = found_of c.args.matches.now in record {
      given = λ word is. (_, refl, c.in_ok-run-in-Some.ensures);
      left_out = λ none. let bad : ◌≡◌ {A = Option Text} None (Some _) = sym none ∙ sym (first_value-rows f (codes "section")) ∙ sym c.get_str.ensures ∙ ap (option_map (λ s. s.now)) c.in-Some.is in cc;
    }

pub returns-in-None : goal.returns-in-None
returns-in-None c =
    let f = found_of c.args.matches.now in
    let none : first_of (codes "section") (rows_of f) ≡ None = sym (first_value-rows f (codes "section")) ∙ sym c.get_str.ensures ∙ ap (option_map (λ s. s.now)) c.in-None.is in record {
      given = λ word is. let bad : ◌≡◌ {A = Option Text} None (Some word) = sym none ∙ is in cc;
      left_out = λ _. (refl, number-named 64 f (codes "run") c.get_one.result c.unwrap_or.result 0 (λ k below. omega (arith, below)) c.get_one.ensures.value c.unwrap_or.ensures);
    }
