-- What a walk over records has counted so far. Defined here.
use Rattle.std.specs.Prelude.{◌≡◌, ℕ, List, length, take, codes}
use Rattle.pmf_query.specs.RecordNames.{known_names}
use Rattle.pmf_lint.specs.{declared.naming.TheConstants.{LISTED}, declared.listing.Listing.{Listing}, declared.counting.NameCounts.{NameCounts}, declared.noting.Notes.{Notes}, Ending.{has_decimal, has_record}, Naming.{Count, count_others, first_names, names_in, names_of, skipped_names}, Nearness.{has_near, has_strange}}

-- what is listed is that of these names: the first different ones, the count of each, and how many there are of all others
pub record Lists (listing : Listing) (names : List (List ℕ)) : Type 0 where
  pub first : names_in listing.listed.items ≡ take LISTED (first_names names)
  pub listed : Count listing.listed.items names
  pub others : listing.others ≡ count_others (names_in listing.listed.items) names

-- what is noted is that of these records: whether a skipped one has a name near to a known one, or no text; whether there is a START,
-- and a STOP; and whether one asserts bytes of which it writes an address in decimal
pub record AreNotes (notes : Notes) (records : List (List ℕ)) : Type 0 where
  pub near : notes.has_near ≡ has_near (skipped_names records)
  pub strange : notes.has_strange ≡ has_strange (skipped_names records)
  pub started : notes.starts ≡ has_record (codes "START") records
  pub stopped : notes.stops ≡ has_record (codes "STOP") records
  pub decimal : notes.has_decimal ≡ has_decimal records

-- what is counted is that of these records: of each known name, and of the names of those that are skipped
pub record Tallies (counts : NameCounts) (records : List (List ℕ)) : Type 0 where
  pub count : counts.records ≡ length records
  pub names : names_in counts.known.items ≡ known_names
  pub known : Count counts.known.items (names_of records)
  pub skipped : Lists counts.listing (skipped_names records)
  pub notes : AreNotes counts.notes records
