-- Sources of which one was read further.
use Rattle.std.proofs.{Common.{◌≡◌, ℕ, ◌<◌, List, length, map, get_or, Option, None, Result, Ok, Err, IfOk, sym, ◌∙◌, ap}, lemmas.List.{get_or-map}}

pub left_at : {S X : Type 0} (left : S → Option X) (xs : List S) (i : ℕ) (x : S) → x ≡ get_or xs i x → i < length xs → get_or (map left xs) i None ≡ left x
left_at left xs i x is inside = get_or-map left xs i x None inside ∙ ap left (sym is)

pub IfOk_map : {X E : Type 0} (P Q : X → Type 0) (result : Result X E) → IfOk result P → ((x : X) → P x → Q x) → IfOk result Q
IfOk_map P Q (Ok x) holds follows = follows x holds
IfOk_map P Q (Err e) holds follows = tt
