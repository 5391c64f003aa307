-- A schedule: its text, and the steps that it tells. Defined here.
use Rattle.std.specs.{Prelude.{◌≡◌, ◌<◌, ℕ, suc, ◌^◌, Bool, nat_lt, ◌==◌, ◌&&◌, List, [], ◌∷◌, length, take, Option, None, Some, Result, Ok, Err, if◌then◌else◌, codes, bytes_eq}, List.{slice_split}, Str.Parse.{digits_value}}
use Rattle.pmf_storelog.specs.Numbers.{is_numeral}
use Rattle.pmf_world.specs.declared.step.{WorldStep.{WorldStep}, WorldStep.TheVariants.{Fresh, Again, Check, Send, Mark, Lose, Arrive, Join}}

-- whether the byte ends a text line
abbrev pub is_line_end : ℕ → Bool
is_line_end c = c == 10

-- whether the byte parts two words
abbrev pub is_blank : ℕ → Bool
is_blank c = c == 32

-- the number below 2^32 that 1 to 10 decimal digits spell
unfoldable pub number_of : List ℕ → Option ℕ
number_of word = if is_numeral 10 10 word && nat_lt (digits_value 10 word) (2 ^ 32) then Some (digits_value 10 word) else None

-- the step that a word tells with one number
unfoldable pub step_of_one : List ℕ → Option ℕ → Option WorldStep
step_of_one word None = None
step_of_one word (Some w) =
    if bytes_eq word (codes "check") then Some (Check w)
    else if bytes_eq word (codes "send") then Some (Send w)
    else if bytes_eq word (codes "mark") then Some (Mark w)
    else if bytes_eq word (codes "lose") then Some (Lose w)
    else None

-- the step that a word tells with two numbers
unfoldable pub step_of_two : List ℕ → Option ℕ → Option ℕ → Option WorldStep
step_of_two word None second = None
step_of_two word (Some a) None = None
step_of_two word (Some a) (Some b) =
    if bytes_eq word (codes "fresh") then Some (Fresh a b)
    else if bytes_eq word (codes "again") then Some (Again a b)
    else if bytes_eq word (codes "arrive") then Some (Arrive a b)
    else if bytes_eq word (codes "join") then Some (Join a b)
    else None

-- the step that these words tell: a word, and one or two numbers
abbrev pub step_of_words : List (List ℕ) → Option WorldStep
step_of_words (word ∷ first ∷ []) = step_of_one word (number_of first)
step_of_words (word ∷ first ∷ second ∷ []) = step_of_two word (number_of first) (number_of second)
step_of_words _ = None

-- the step that a text line tells: its words are parted by single blanks
unfoldable pub step_of_line : List ℕ → Option WorldStep
step_of_line text = step_of_words (slice_split is_blank text)

-- a step in front of what the rest tells
abbrev pub step_before : ℕ → Option WorldStep → Result (List WorldStep) ℕ → Result (List WorldStep) ℕ
step_before n None rest = Err n
step_before n (Some step) (Ok steps) = Ok (step ∷ steps)
step_before n (Some step) (Err later) = Err later

-- the text line of number n in front of what the rest tells: an empty one tells nothing
abbrev pub line_before : ℕ → List ℕ → Result (List WorldStep) ℕ → Result (List WorldStep) ℕ
line_before n [] rest = rest
line_before n text rest = step_before n (step_of_line text) rest

-- the steps that these text lines tell, the first of which has number n, or the number of the first that is neither empty nor a step
unfoldable pub steps_of_lines : ℕ → List (List ℕ) → Result (List WorldStep) ℕ
steps_of_lines n [] = Ok []
steps_of_lines n (text ∷ texts) = line_before n text (steps_of_lines (suc n) texts)

-- the steps that a schedule tells, or the number of its first text line that is neither empty nor a step
unfoldable pub schedule_of : List ℕ → Result (List WorldStep) ℕ
schedule_of text = steps_of_lines 1 (slice_split is_line_end text)

-- some text lines from the front of a schedule tell steps, at least one
abbrev pub TellsSome : List ℕ → Type 0
TellsSome text =
    (n : ℕ) × (steps : List WorldStep) × (0 < length steps) × (steps_of_lines 1 (take n (slice_split is_line_end text)) ≡ Ok steps)
