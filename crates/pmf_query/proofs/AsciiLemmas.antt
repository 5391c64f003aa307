-- The bytes of a printed character, and texts that are shown whole.
use Rattle.std.proofs.{Common.{◌≡◌, ℕ, ◌≤◌, Bool, true, List, [], ◌∷◌, ◌++◌, cond, length, take, take_all, ap, sym, ◌∙◌, arith, codes, flat_map, append-nil, le-leb}, lemmas.Bool.{and_parts, leb-true}, lemmas.Str.{encode_ascii}, Math.Utf8.{encode}, lemmas.Grind.{common_steps}}
use Rattle.pmf_query.specs.Ascii.{is_printed, shown_byte, shown_text}

pub printed_alone : (b c : ℕ) → c ≡ b → is_printed b ≡ true → encode c ≡ b ∷ []
unfolding is_printed
printed_alone b c same printed = grind (arith, common_steps, leb-true, and_parts, encode, encode_ascii)

pub short_text : (text : List ℕ) (most : ℕ) → length text ≤ most → flat_map (λ b. shown_byte b) text ≡ shown_text most text
unfolding shown_text
short_text text most short =
    let whole = le-leb (length text) most short in
    ap (λ (bs : List ℕ). flat_map (λ b. shown_byte b) bs) (sym (take_all most text short)) ∙ sym (append-nil (flat_map (λ b. shown_byte b) (take most text)))
    ∙ ap (λ (b : Bool). flat_map (λ b. shown_byte b) (take most text) ++ cond b [] (codes "..")) (sym whole)
