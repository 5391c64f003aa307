use Rattle.std.{proofs.Common.{nat_cmp, [], ◌∷◌, ◌++◌, refl, sym, ap, ◌∙◌}, specs.{BTreeMap.{get, is_at}, Map.{lookup}}}
use Rattle.pmf_storelog.proofs.PartLemmas.{ended_is, parts_of-nil}
use Rattle.pmf_cut.proofs.CuttingLemmas.{cut-none}
use Rattle.pmf_cut.proofs.cutter.Cutter.new.Goals as goal

pub returns : goal.returns
returns c = record {
  done = [];
  whole = sym c.new-5.ensures.items;
  ended = parts_of-nil ∙ ap (λ front. front ++ [] ∷ []) (sym (ended_is [] [] [] parts_of-nil));
  unended = rw c.new-5.ensures.items parts_of-nil;
  cuts = record { step_is = refl; has = cut-none c.args.step (get nat_cmp c.new-3.result) (get nat_cmp c.new-4.result) _ _ (λ number. ap (lookup (is_at (nat_cmp number))) c.new-3.ensures.empty) (λ name. ap (lookup (is_at (nat_cmp name))) c.new-4.ensures.empty) c.in_ok-outputs.ensures };
}
