use Rattle.std.proofs.Common.{length, ap, arith}
use Rattle.pmf_query.{proofs.NumberFoundLemmas.{events_found, read_so}}
use Rattle.pmf_query.proofs.locate.locate_event.Goals as goal

pub unreachable-requires : goal.unreachable-requires
unreachable-requires c =
    let so = read_so c.args.run c.args.log.now c.in-Ok.read c.in-Ok.ensures in
    let has = c.in_ok-section_with.ensures in
    let events = events_found c.args.run c.args.log.now c.in-Ok.read.sections c.args.section so.1 c.in_ok-section_with.field-0.now.value has.0.0 has.0.1 in
    omega (arith, has.1.1, ap length events, c.in-None.ensures, c.from.ensures)
