-- How a fault is told. ASCII. Defined here.
use Rattle.std.specs.Prelude.{ℕ, ◌==◌, List, ◌++◌, codes, if◌then◌else◌, decimal}
use Rattle.pmf_event.specs.Span.{words_of_fault}
use Rattle.pmf_storelog.specs.declared.fault.{Cause.{Cause}, Cause.TheVariants.{TooFewFields, BadNumber, BadSpan, UnknownMarker, TooManySections, TooManyEvents, TooLong, OutOfMemory, Spent}, LogFault.{LogFault}}

-- the words of a cause
abbrev pub words_of_cause : Cause → List ℕ
words_of_cause TooFewFields = codes "too few fields"
words_of_cause BadNumber = codes "bad number"
words_of_cause (BadSpan fault) = words_of_fault fault
words_of_cause UnknownMarker = codes "unknown marker"
words_of_cause TooManySections = codes "too many sections"
words_of_cause TooManyEvents = codes "too many events in the section"
words_of_cause TooLong = codes "log is too long"
words_of_cause OutOfMemory = codes "out of memory"
words_of_cause Spent = codes "the reader is spent"

-- the text of a fault: the number of its record, if it has one, and the words of its cause
abbrev pub text_of_fault : LogFault → List ℕ
text_of_fault fault =
    if fault.at == 0 then words_of_cause fault.cause
    else codes "record " ++ decimal fault.at ++ codes ": " ++ words_of_cause fault.cause
