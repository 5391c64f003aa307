-- Where all spans are valid, written bytes lie below the limit of addresses.
use Rattle.std.proofs.{Common.{◌≡◌, ℕ, zero, suc, ◌<◌, true, List, refl, subst, arith, Option, Some, None, All}, lemmas.List.Elements.{All-get_or}, lemmas.Option.{slice_get_within, get_or_from_slice_get}}
use Rattle.pmf_event.{specs.declared.event.Event.{Event}, specs.declared.event.Event.TheVariants.{Store}, specs.declared.span.TheConstants.{ADDRESS_LIMIT}, specs.Laws.{BytesLieBelowTheLimit}, specs.Section.{IsValidEvent}, specs.Store.{event_at, passes, at, stores, last, last_store}, proofs.LineLemmas.{covers-bounds}, proofs.PlacesLemmas.{greatest-passes}, proofs.TransactionLemmas.{scoped-written}}

-- an event of a list of valid ones
valid-at : (es : List Event) (k : ℕ) (e : Event) → All IsValidEvent es → event_at es k ≡ Some e → IsValidEvent e
unfolding event_at
valid-at es zero e valid here = let bad : None ≡ Some e = here in cc
valid-at es (suc k) e valid here =
    subst IsValidEvent (get_or_from_slice_get es k e e here) (All-get_or IsValidEvent es k e (slice_get_within es k e here) valid)

stores-below : (b : ℕ) (e : Event) → IsValidEvent e → stores b e ≡ true → b < ADDRESS_LIMIT
unfolding stores
stores-below b (Store s) valid covered = let bounds = covers-bounds s b covered in let ends = valid.ends in omega (arith, bounds.1)
stores-below b _ valid covered = cc

passes-below : (b : ℕ) (o : Option Event) → ((e : Event) → o ≡ Some e → IsValidEvent e) → passes (stores b) o ≡ true → b < ADDRESS_LIMIT
passes-below b None valid covered = cc
passes-below b (Some e) valid covered = stores-below b e (valid e refl) covered

written-below : (es : List Event) (p b : ℕ) → All IsValidEvent es → 0 < last_store es p b → b < ADDRESS_LIMIT
unfolding last at
written-below es p b valid some =
    passes-below b (event_at es (last_store es p b)) (λ e here. valid-at es (last_store es p b) e valid here) (greatest-passes (at (stores b) es) p some)

pub bytes_lie_below_the_limit : BytesLieBelowTheLimit
bytes_lie_below_the_limit es p b valid = (
  written-below es p b valid,
  λ scoped. written-below es (suc p) b valid (scoped-written es p b scoped),
)
