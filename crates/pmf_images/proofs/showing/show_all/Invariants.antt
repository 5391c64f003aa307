use Rattle.std.proofs.Common.{◌≡◌, map, take}
use Rattle.pmf_images.specs.Showing.{shown_of}
use Rattle.pmf_images.proofs.showing.show_all.Given as goal

abbrev pub invariant-loop-index : goal.invariant-loop-index
invariant-loop-index l = l.shown.items ≡ map (shown_of l.events) (take l.index l.asked)
