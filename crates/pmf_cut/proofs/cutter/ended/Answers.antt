use Rattle.std.proofs.{Common.{◌≡◌, ℕ, ◌+◌, List, [], ◌∷◌, length, drop, arith, length-drop}, lemmas.List.{get_or-drop}}
use Rattle.memchr.specs.Find.{Nowhere, Passes, is_byte3}
use Rattle.pmf_storelog.{specs.Separators.{parts_of}, proofs.SplitLemmas.{split_none}}
use Rattle.pmf_cut.proofs.cutter.ended.Goals as goal

-- with no separator from there on there is one part
rest_open : (text : List ℕ) (end : ℕ) → Nowhere (Passes (is_byte3 124 10 13) text) end (length text) → parts_of (drop end text) ≡ drop end text ∷ []
unfolding parts_of
rest_open text end none = grind (arith, split_none, length-drop, get_or-drop)

pub returns-in-Some-clause-unended : goal.returns-in-Some-clause-unended
returns-in-Some-clause-unended c = rest_open c.args.piece.now (c.in-Some.end + 1) c.in-Some.ensures.0.after

pub returns-in-None-clause-unended : goal.returns-in-None-clause-unended
returns-in-None-clause-unended c = rest_open c.args.piece.now 0 c.in-None.ensures
