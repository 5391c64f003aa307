use Rattle.std.proofs.Common.{All, map, take}
use Rattle.pmf_device.specs.Failures.{CanCountOneMore}
use Rattle.pmf_command.specs.Answered.{AreOpened}
use Rattle.pmf_command.proofs.requests.opened.Given as goal

abbrev pub invariant-loop-name : goal.invariant-loop-name
invariant-loop-name g l = record {
  opened : AreOpened (g.F.Shelf.bytes l.shelf) (map (λ name. name.now) (take l.name-index l.names)) (map g.F.File.Source.left l.sources.items);
  fresh : All (λ s. CanCountOneMore (g.F.File.Device.failed_calls s)) l.sources.items;
}
