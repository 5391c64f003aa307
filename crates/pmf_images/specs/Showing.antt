-- What an image shows of a byte that is asked for. Defined here.
use Rattle.std.specs.Prelude.{List}
use Rattle.pmf_event.specs.{declared.event.Event.{Event}, Line.{line_of_byte}, Store.{last_store}}
use Rattle.pmf_image.specs.Certificate.{cut_in, shows_in}
use Rattle.pmf_images.specs.declared.showing.{Asked.{Asked}, Shown.{Shown}}

-- how many stores of the byte's line the image holds, the store that the byte shows in it, and its last store at
-- the place
abbrev pub shown_of : List Event → Asked → Shown
shown_of es a = record {
  cut = cut_in es a.certificate (line_of_byte a.byte);
  shows = shows_in es a.certificate a.byte;
  last = last_store es a.place a.byte;
}
