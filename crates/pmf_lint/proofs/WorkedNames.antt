-- Worked examples of names, computed by the definitions alone.
use Rattle.std.proofs.Common.{◌≡◌, ℕ, true, false, List, [], ◌∷◌, Some, None, refl, codes}
use Rattle.pmf_query.specs.Ascii.{is_printed, is_text, shown_byte, shown_text}
use Rattle.pmf_lint.specs.{Naming.{count_named, count_others, first_names, is_among}, Nearness.{begins_with, common_front, ends_with, is_edited, is_name_byte, is_near, is_one_edit_away, is_same, is_swapped, near_of}, LintText.{shown_name}}

abbrev names : List (List ℕ)
names = codes "START" ∷ codes "STOER" ∷ codes "START" ∷ codes "" ∷ codes "STOER" ∷ codes "STOP" ∷ []

rows :
    (first_names names ≡ codes "START" ∷ codes "STOER" ∷ codes "" ∷ codes "STOP" ∷ [])  -- each name once in order
    × (count_named (codes "START") names ≡ 2)  -- two of one name
    × (count_others (codes "START" ∷ codes "STOER" ∷ []) names ≡ 2)  -- two of no listed name
    × (near_of (codes "STOER") ≡ Some (codes "STORE"))  -- two neighbours swapped
    × (near_of (codes "FLUUSH") ≡ Some (codes "FLUSH"))  -- a letter put in
    × (near_of (codes "ENCE") ≡ Some (codes "FENCE"))  -- a letter left out
    × (near_of (codes "pmt_persist") ≡ Some (codes "PMT.PERSIST"))  -- a letter replaced and another case
    × (near_of (codes "==7==STORE") ≡ Some (codes "STORE"))  -- behind a prefix
    × (near_of (codes "STORE,0x10") ≡ Some (codes "STORE"))  -- before other fields
    × (near_of (codes "DO_FLUSH") ≡ None)  -- a name of its own
    × (near_of (codes "START") ≡ None)  -- two edits
    × (is_text (codes " ~") ≡ true)  -- a blank is printed
    × (is_text (codes "a\t") ≡ false)  -- a tab is no text
    × (shown_name (codes "a\\\tb") ≡ codes "a\\\\\\x09b")  -- a backslash and a tab are shown
unfolding first_names count_named count_others is_among near_of is_near is_one_edit_away common_front is_edited is_swapped is_same begins_with ends_with is_name_byte is_text is_printed shown_text shown_byte
rows = (refl, refl, refl, refl, refl, refl, refl, refl, refl, refl, refl, refl, refl, refl)
