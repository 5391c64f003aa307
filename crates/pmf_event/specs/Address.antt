-- How an address is written, and each other number that is written as one. Defined here.
use Rattle.std.specs.{Prelude.{ℕ, false, List, ◌++◌, codes}, Fmt.{digits}}

-- the text of a number: 0x and lower-case hexadecimal digits, no leading zeros
abbrev pub address : ℕ → List ℕ
address n = codes "0x" ++ digits 16 false n
