use Rattle.std.proofs.Common.{◌≡◌, take, flat_map, string_bytes}
use Rattle.pmf_why.specs.{declared.taking.Told.{Told}, Ending.{like_in}, WhyText.{text_of_more}}
use Rattle.pmf_why.proofs.taking.likes_in.Given as goal

abbrev pub invariant-loop-one : goal.invariant-loop-one
invariant-loop-one l = string_bytes l.text ≡ flat_map (λ (t : Told). text_of_more t.name t.row (like_in l.all l.kinds t)) (take l.one-index l.told)
