use Rattle.std.proofs.Common.{◌≡◌, ◌<◌, get_or, length, subst}
use Rattle.pmf_runs.{specs.Ranks.{HasKey}, proofs.LeafLemmas.{begins-is}, proofs.CutLemmas.{cut-first}}
use Rattle.pmf_runs.proofs.leaf.Leaf.cut_run.Goals as goal

pub cut_end-requires-clause-begins : goal.cut_end-requires-clause-begins
cut_end-requires-clause-begins g c = begins-is c.args.self.now c.args.first (subst (λ ks. HasKey ks c.args.first) c.deref.ensures.value (c.is_key.ensures.key c.if-is_key.true))

pub returns-then-is_key_at-clause-bounds : goal.returns-then-is_key_at-clause-bounds
returns-then-is_key_at-clause-bounds g c =
    cut-first c.args.self.now c.put_key.new.self c.args.first c.args.end c.args.index c.requires.rank c.requires.order
    (subst (λ ks. (c.args.index < length ks) × (get_or ks c.args.index 0 ≡ c.args.end)) c.deref-2.ensures.value (c.is_key_at.ensures.key c.if-is_key_at.true))
    c.in_ok-put_key.ensures.keys
