-- Two lists byte by byte: what a comparison finds alike. No public clause cites this.
use Rattle.std.{specs.Prelude.{◌≡◌, ℕ, ◌-◌, ◌/◌, ◌%◌, ◌<◌, Bool, true, not, ◌&&◌, ◌||◌, ◌==◌, nat_lt, List, [], ◌∷◌, ◌++◌, Option, None, Some, is_some, is_none, if◌then◌else◌}, proofs.Math.Bool.{beq}}
use Rattle.pmf_event.specs.{declared.event.Event.{Event}, declared.span.TheConstants.{LINE_SIZE}, Line.{line_of_byte}, Store.{last_store}, Exclusion.{is_excluded}, Order.{share_line, is_stored_before}, LineBytes.{is_undurable, is_unwritten}}
use Rattle.pmf_shadow.specs.declared.standing.Standing.{Standing}

-- whether the first of two places comes before the second in the one list as in the other
abbrev pub is_same_order : ℕ → ℕ → ℕ → ℕ → Bool
is_same_order a b u v = beq (nat_lt a u) (nat_lt b v) && beq (nat_lt u a) (nat_lt v b)

-- whether two places stand to each of these pairs alike
unfoldable pub agrees : List (ℕ × ℕ) → ℕ → ℕ → Bool
agrees [] u v = true
agrees (pair ∷ rest) u v = is_same_order pair.0 pair.1 u v && agrees rest u v

-- byte b stands in the one list as in the other, which knows no store of it but one that is undurable
pub record SameByte (fs : List Event) (m : ℕ) (gs : List Event) (q b : ℕ) : Type 0 where
  pub excluded : is_excluded gs q b ≡ is_excluded fs m b
  pub undurable : is_undurable gs q b ≡ is_undurable fs m b
  pub unwritten : is_unwritten gs q b ≡ is_unwritten fs m b
  pub fresh : 0 < last_store gs q b → is_undurable gs q b ≡ true

-- the bytes below an end do, and the stores of undurable ones on a line stand in the same order
pub record IsAlikeBelow (fs : List Event) (m : ℕ) (gs : List Event) (q end : ℕ) : Type 0 where
  pub bytes : (b : ℕ) → b < end → SameByte fs m gs q b
  pub order : (x y : ℕ) → x < end → y < end → share_line x y ≡ true → is_undurable fs m x ≡ true → is_undurable fs m y ≡ true →
      is_stored_before gs q x y ≡ is_stored_before fs m x y

-- what agrees with these pairs agrees with the places of each undurable byte of the line below an end
abbrev pub CoversLine : List (ℕ × ℕ) → List Event → ℕ → List Event → ℕ → ℕ → ℕ → Type 0
CoversLine seen fs m gs q end line = (u v : ℕ) → agrees seen u v ≡ true → (x : ℕ) → x < end → line_of_byte x ≡ line → is_undurable fs m x ≡ true →
    is_same_order (last_store fs m x) (last_store gs q x) u v ≡ true

-- whether bytes that stand so in the one list stand so in the other, which knows no durable store
abbrev pub standings_agree : Standing → Standing → Bool
standings_agree a b =
    beq a.excluded b.excluded && (beq a.undurable b.undurable && (beq a.unwritten b.unwritten && ((b.undurable || is_none b.last) && (not a.undurable || (is_some a.last && is_some b.last)))))

-- both places, if there are both
abbrev pub both_places : Option ℕ → Option ℕ → Option (ℕ × ℕ)
both_places (Some x) (Some y) = Some (x, y)
both_places (Some x) None = None
both_places None y = None

-- the places of the last stores, where these are undurable
abbrev pub places_of : Standing → Standing → Option (ℕ × ℕ)
places_of a b = if a.undurable then both_places a.last b.last else None

-- the pairs that were seen on the line of a byte: none where a line begins
abbrev pub seen_at : List (ℕ × ℕ) → ℕ → List (ℕ × ℕ)
seen_at seen at = if at % LINE_SIZE == 0 then [] else seen

-- and those on the line of the last byte before an end, of which one that lies on the same line
abbrev pub seen_behind : List (ℕ × ℕ) → ℕ → ℕ → List (ℕ × ℕ)
seen_behind seen at end = if (end - 1) / LINE_SIZE == at / LINE_SIZE then seen_at seen at else []

-- bytes from `at` up to an end, with these places, were stored in the order of what was seen, which has them from now on
abbrev pub Extends : List (ℕ × ℕ) → List (ℕ × ℕ) → Option (ℕ × ℕ) → ℕ → ℕ → Type 0
Extends old new None at end = new ≡ seen_behind old at end
Extends old new (Some pair) at end = (agrees (seen_at old at) pair.0 pair.1 ≡ true) × (new ≡ seen_behind old at end ++ pair ∷ [])

-- two lists are alike below an end, and what was seen has the undurable bytes on the line of the last byte before it
pub record Compared (fs : List Event) (m : ℕ) (gs : List Event) (q : ℕ) (seen : List (ℕ × ℕ)) (at : ℕ) : Type 0 where
  pub below : IsAlikeBelow fs m gs q at
  pub line : 0 < at → CoversLine seen fs m gs q at (line_of_byte (at - 1))
