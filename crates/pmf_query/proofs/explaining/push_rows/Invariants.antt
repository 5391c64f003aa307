use Rattle.std.proofs.Common.{◌≡◌, ◌++◌, List, length, map, take, drop, flat_map, string_bytes}
use Rattle.pmf_event.specs.declared.event.Event.{Event}
use Rattle.pmf_images.specs.Showing.{shown_of}
use Rattle.pmf_query.specs.{Asking.{asked_of, text_if_failed}}
use Rattle.pmf_query.proofs.explaining.push_rows.Given as goal

abbrev pub invariant-loop-row : goal.invariant-loop-row
invariant-loop-row l = record {
  long : length l.rest ≡ length (flat_map asked_of (drop l.row-index l.rows));
  rest : (es : List Event) → l.shown ≡ map (shown_of es) (flat_map asked_of l.rows) → l.rest ≡ map (shown_of es) (flat_map asked_of (drop l.row-index l.rows));
  told : (es : List Event) → l.shown ≡ map (shown_of es) (flat_map asked_of l.rows) → string_bytes l.text ≡ string_bytes l.fn.text ++ flat_map (text_if_failed l.name es) (take l.row-index l.rows);
}
