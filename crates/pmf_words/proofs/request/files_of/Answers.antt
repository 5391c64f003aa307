use Rattle.std.proofs.Common.{◌++◌, map, ◌∙◌, ap, arith, codes, rules, unwrap_or}
use Rattle.clap.{specs.Words.{found_of}, proofs.WalkLemmas.{first_value-rows, one_text-rows, raw_values-rows}}
use Rattle.pmf_words.proofs.RequestLemmas.{number-named, texts-named}
use Rattle.pmf_words.proofs.request.files_of.Goals as goal

pub returns : goal.returns
returns c =
    let f = found_of c.args.join.now in record {
      names =
          ap (map (λ s. s.now)) (c.in_ok-extend_from_slice.ensures.items ∙ ap (λ xs. xs ++ c.unwrap_or.result.now) c.new-names.ensures.items ∙ ap (λ s. s.now) c.unwrap_or.ensures)
          ∙ texts-named c.get_strs.result _ _ (search rules) (c.get_strs.ensures ∙ raw_values-rows f (codes "file"));
      list = c.get_str.ensures ∙ first_value-rows f (codes "files-from");
      joining = c.in_ok-joining.ensures;
      workers = number-named 32 f (codes "workers") c.get_one.result c.unwrap_or-2.result 1 (λ k below. omega (arith, below)) c.get_one.ensures.value c.unwrap_or-2.ensures;
      alone = λ is. c.unwrap_or-2.ensures ∙ ap (λ o. unwrap_or o 1) (c.get_one.ensures.none (one_text-rows f (codes "workers") ∙ is));
      wanted = c.in_ok-wanted.ensures;
    }
