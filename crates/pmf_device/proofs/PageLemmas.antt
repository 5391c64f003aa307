-- A text that is written part by part, and stops.
use Rattle.std.{proofs.Common.{◌≡◌, ℕ, ◌+◌, ◌≤◌, ◌<◌, List, [], ◌++◌, Option, Result, Ok, Err, length, take, refl, sym, ap, subst, ◌∙◌, arith, length-append, append-nil, MatchResult}, proofs.KnownBytes.{Appends-nil, Appends-trans}, proofs.lemmas.List.{take-append-le}, proofs.Math.Seq.{take-append_seam, take-append-add}, specs.{Io.KnownBytes.{Appends}, Result.{IsErr, IsErrAnd}}}
use Rattle.pmf_device.specs.{declared.page.{Page.{Page}, Stop.{Stop}}, Pages.{IsPage, StopsIn, WritesText}}
use Rattle.pmf_device.specs.declared.page.Stop.TheVariants as stop

-- some of the front of a longer text
front_of : (held holds : Option (List ℕ)) (n : ℕ) (text rest : List ℕ) → n ≤ length text → Appends held holds (take n text) → Appends held holds (take n (text ++ rest))
front_of held holds n text rest within is = subst (Appends held holds) (sym (take-append-le n text rest within)) is

longer : (n : ℕ) (text rest : List ℕ) → n < length text → n < length (text ++ rest)
longer n text rest less = omega (arith, length-append text rest)

no_shorter : (n : ℕ) (text rest : List ℕ) → n ≤ length text → n ≤ length (text ++ rest)
no_shorter n text rest less = omega (arith, length-append text rest)

-- what stops in a text that goes on stops in what it goes on to
pub stops_on : (P Q : List ℕ → Type 0) (held holds : Option (List ℕ)) (why : Stop) → ((text : List ℕ) → P text → (rest : List ℕ) × Q (text ++ rest)) → StopsIn P held holds why → StopsIn Q held holds why
stops_on P Q held holds (stop.Failed written) on (text, is, less, put) =
    let more = on text is in (text ++ more.0, more.1, longer written text more.0 less, front_of held holds written text more.0 (omega (arith, less)) put)
stops_on P Q held holds stop.OutOfMemory on (text, written, is, within, put) =
    let more = on text is in (text ++ more.0, written, more.1, no_shorter written text more.0 within, front_of held holds written text more.0 within put)

-- nothing more is written of a text than the page says
pub stops_here : (P : List ℕ → Type 0) (held holds : Option (List ℕ)) (front rest : List ℕ) (page : Page) → IsPage held holds front page → P (front ++ rest) → StopsIn P held holds stop.OutOfMemory
stops_here P held holds front rest page is text =
    let all : front ≡ take (length front) (front ++ rest) = sym (take-append_seam front rest) in
    (front ++ rest, length front, text, omega (arith, length-append front rest), subst (Appends held holds) all is.written)

-- one part more
pub put_more : (held holds holds_then : Option (List ℕ)) (front part : List ℕ) (page : Page) (written : ℕ) → IsPage held holds front page → written ≡ page.written + length part → Appends holds holds_then part →
    IsPage held holds_then (front ++ part) (record { written = written })
put_more held holds holds_then front part page written is so put = record {
  written = Appends-trans held holds holds_then front part is.written put;
  count = omega (arith, so, is.count, length-append front part);
}

-- a part that is cut off
pub put_less : (held holds holds_then : Option (List ℕ)) (front part : List ℕ) (page : Page) (count : ℕ) → IsPage held holds front page → count < length part → Appends holds holds_then (take count part) →
    StopsIn (λ text. text ≡ front ++ part) held holds_then (stop.Failed (page.written + count))
put_less held holds holds_then front part page count is less put =
    let cut : take (page.written + count) (front ++ part) ≡ front ++ take count part = ap (λ n. take (n + count) (front ++ part)) is.count ∙ take-append-add front part count in (
      front ++ part,
      refl,
      omega (arith, is.count, less, length-append front part),
      subst (Appends held holds_then) (sym cut) (Appends-trans held holds holds_then front (take count part) is.written put),
    )

-- nothing yet
pub blank : (held : Option (List ℕ)) → IsPage held held [] (record { written = 0 })
blank held = record { written = Appends-nil held; count = refl }

-- an error that is passed on
pub stops_so : {X E : Type 0} (Done : X → Type 0) (Why : E → Type 0) (result : Result X E) (e : E) → IsErr result × IsErrAnd result (λ other. other ≡ e) → Why e → MatchResult result Done Why
stops_so Done Why (Ok done) e is because = absurd cc
stops_so Done Why (Err other) e is because = subst Why (sym is.1) because

-- the last part
pub ends_so : {X : Type 0} (IsText : List ℕ → Type 0) (held holds : Option (List ℕ)) (whole : List ℕ) (page : Page) (result : Result X Stop) → IsText whole →
    MatchResult result (λ done. IsPage held holds whole page) (StopsIn (λ text. text ≡ whole) held holds) → WritesText IsText held holds result
ends_so IsText held holds whole page (Ok done) is put = (whole, is, put.written)
ends_so IsText held holds whole page (Err why) is put = stops_on (λ text. text ≡ whole) IsText held holds why (λ text same. ([], subst IsText (sym (append-nil text ∙ same)) is)) put
