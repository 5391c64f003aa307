-- One more event of a walk: the shadow and the transactions stand for it, and the rows are those of its
-- findings.
use Rattle.std.proofs.Common.{◌≡◌, ℕ, suc, ◌-◌, true, List, [], ◌∷◌, ◌++◌, map, refl, sym, ◌∙◌, ap, arith, subst, Option, Some, option_map, append-nil}
use Rattle.pmf_event.specs.{declared.event.Event.{Event}, declared.event.Event.TheVariants.{Store, TxAdd, TxEnd, CheckStart, CheckEnd}, declared.finding.Finding.{Finding}, declared.profile.Profile.{Profile}, Span.{Extent}, Store.{event_at}, FlushWarnings.{if_any}, Transactions.{store_finding, add_finding, end_finding, start_finding, check_finding}}
use Rattle.pmf_shadow.{specs.declared.shadow.Shadow.{Shadow}, specs.Shadow.{StandsFor, FollowsAt}, specs.Told.{finding_as_told}, specs.Laws.{is_unseen}, proofs.StandsLemmas.{follows-within, unseen-follows}}
use Rattle.pmf_txcheck.{specs.declared.state.TxState.{TxState}, specs.Laws.{is_untracked}, specs.Tracking.{Tracks, FollowsAt as FollowsTransactionAt}, proofs.TrackLemmas.{follows-within as tracks-within, untracked-follows}}
use Rattle.pmf_verdict.{specs.declared.checking.Walk.{Walk}, specs.Rows.{findings_of, row_at}, specs.Walks.{Walks}, proofs.RowsLemmas.{rows_upto-next}}

-- the shadow was told of each event at its own place
pub stands-next : (place : ℕ) (old new : Shadow) (e : Event) → FollowsAt place old new e → (es : List Event) (p : ℕ) → event_at es (suc p) ≡ Some e → place ≡ suc p →
    StandsFor old (λ k. k) es p → StandsFor new (λ k. k) es (suc p)
stands-next place old new e follows es p here at_place stands = follows-within place old new e follows (λ k. k) es p here (sym at_place) stands

-- and so was the state of transactions
pub tracks-next : (place : ℕ) (old new : TxState) (e : Event) → FollowsTransactionAt place old new e → (es : List Event) (p : ℕ) → event_at es (suc p) ≡ Some e → place ≡ suc p →
    Tracks old (λ k. k) es p → Tracks new (λ k. k) es (suc p)
tracks-next place old new e follows es p here at_place tracks = tracks-within place old new e follows (λ k. k) es p here (sym at_place) tracks

pub as_told-same : (f : Finding) → finding_as_told (λ k. k) f ≡ f
as_told-same f = grind arith

pub if_any-as_told-same : (f : Option Finding) → option_map (finding_as_told (λ k. k)) f ≡ f
if_any-as_told-same f = grind arith

module _ (old new : Walk) (es : List Event) (p : ℕ) (e : Event) (here : event_at es (suc p) ≡ Some e) (walks : Walks old es p) where
  -- the shadow and the transactions followed the event, and its findings were said
  pub walks-said : (shadow : Shadow) (transactions : TxState) (place : ℕ) (fs : List Finding) →
      new ≡ record { shadow = shadow; transactions = transactions; rows = old.rows ++ map (row_at place) fs; profile = old.profile } →
      StandsFor shadow (λ k. k) es (suc p) → Tracks transactions (λ k. k) es (suc p) → place ≡ suc p →
      findings_of old.profile es (suc p) (Some e) ≡ fs → Walks new es (suc p)
  walks-said shadow transactions place fs is stands tracks at_place found = grind (arith, subst, suc, sym, ap, map, rows_upto-next)

  -- the same of an event without findings
  pub walks-silent : (shadow : Shadow) (transactions : TxState) →
      new ≡ record { shadow = shadow; transactions = transactions; rows = old.rows; profile = old.profile } →
      StandsFor shadow (λ k. k) es (suc p) → Tracks transactions (λ k. k) es (suc p) → findings_of old.profile es (suc p) (Some e) ≡ [] → Walks new es (suc p)
  walks-silent shadow transactions is stands tracks none =
      walks-said shadow transactions (suc p) []
      (is ∙ ap (λ rs. record { shadow = shadow; transactions = transactions; rows = rs; profile = old.profile }) (sym (append-nil old.rows)))
      stands tracks refl none

  -- an event that the shadow need not be told of
  pub stands-still : is_unseen e ≡ true → StandsFor old.shadow (λ k. k) es (suc p)
  stands-still unseen = stands-next (suc p) old.shadow old.shadow e (unseen-follows old.shadow e unseen (suc p)) es p here refl walks.stands

  -- an event that the transactions need not be told of
  pub tracks-still : is_untracked e ≡ true → Tracks old.transactions (λ k. k) es (suc p)
  tracks-still untracked = tracks-next (suc p) old.transactions old.transactions e (untracked-follows old.transactions e untracked (suc p)) es p here refl walks.tracks

-- ---- what is found of an event by what the transactions say

module _ (profile : Profile) (es : List Event) (p : ℕ) where
  before : suc p - 1 ≡ p
  before = omega arith

  pub found-store : (s : Extent) (f : Option Finding) → f ≡ store_finding es p s → findings_of profile es (suc p) (Some (Store s)) ≡ if_any f
  unfolding findings_of
  found-store s f is = ap (λ q. if_any (store_finding es q s)) before ∙ ap if_any (sym is)

  pub found-add : (s : Extent) (f : Option Finding) → f ≡ add_finding es p s → findings_of profile es (suc p) (Some (TxAdd s)) ≡ if_any f
  unfolding findings_of
  found-add s f is = ap (λ q. if_any (add_finding es q s)) before ∙ ap if_any (sym is)

  pub found-end : (f : Option Finding) → f ≡ end_finding es p → findings_of profile es (suc p) (Some TxEnd) ≡ if_any f
  unfolding findings_of
  found-end f is = ap (λ q. if_any (end_finding es q)) before ∙ ap if_any (sym is)

  pub found-start : (f : Option Finding) → f ≡ start_finding es p → findings_of profile es (suc p) (Some CheckStart) ≡ if_any f
  unfolding findings_of
  found-start f is = ap (λ q. if_any (start_finding es q)) before ∙ ap if_any (sym is)

  pub found-check : (f : Finding) → f ≡ check_finding es p → findings_of profile es (suc p) (Some CheckEnd) ≡ f ∷ []
  unfolding findings_of
  found-check f is = ap (λ q. check_finding es q ∷ []) before ∙ ap (λ g. g ∷ []) (sym is)
