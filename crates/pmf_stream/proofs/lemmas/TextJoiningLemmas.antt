-- Ledger texts that are joined, one after another and by halves.
use Rattle.std.specs.{Prelude.{get_or, take, drop, MatchResult, IfOk, IfErr, IfSome, Result, Ok, Err}, List.{drop-map, take-map}, Result.{result_ok}}
use Rattle.std.proofs.{Common.{◌≡◌, ◌<◌, ◌≤◌, ◌+◌, ◌-◌, ℕ, List, [], ◌∷◌, ◌++◌, length, map, flat_map, refl, sym, ◌∙◌, ap, subst, arith, ◌≢◌, ◌↔◌, All, append-nil, length-take-le}, lemmas.Grind.{flat_map-append}, lemmas.List.{map-append, take-append-drop, take_more}, lemmas.List.Elements.{All-append, All-cons, All-nil}, Math.Seq.{take-add}}
use Rattle.pmf_event.specs.declared.{name.Name.{Name}, profile.Profile.{Profile}, profile.Profile.TheVariants.{One, Two}}
use Rattle.pmf_ledger.specs.{declared.form.Form.{Form}, declared.joining.JoinFault.{JoinFault}, declared.joining.JoinFault.TheVariants.{ProfileMismatch, Conflict, OutOfMemory}, declared.loading.LedgerFault.{LedgerFault}, Gathered.{GathersBoth, IsLeastClash, IsLedgerOf, Unites}, Joining.{AgreeTogether}, LedgerValue.{LedgerValue}, Loading.{LoadsAs, reading_of}}
use Rattle.pmf_stream.specs.{declared.joining.JoinTextFault.{JoinTextFault}, Joining.{IsJoinFaultOf, IsJoinOf, IsJoinOfTwo, IsJoinedAt, IsOfProfile, IsRefusalOfTexts, IsRefusedAt, IsRefusedInTurn, blocks_of}}
use Rattle.pmf_stream.specs.declared.joining.JoinTextFault.TheVariants as texts

-- profiles that don't differ are the same
same_unless : (a b : Profile) → (a ≢ b → ⊥) → a ≡ b
same_unless One One apart = refl
same_unless One Two apart = absurd (apart (λ e. cc))
same_unless Two One apart = absurd (apart (λ e. cc))
same_unless Two Two apart = refl

pub IsJoinOfTwo-joined : (before after new : LedgerValue) → (before.profile ≢ after.profile → ⊥) → Unites before after new → GathersBoth before after new → IsJoinOfTwo before after new
IsJoinOfTwo-joined before after new apart unites gathers = record { same = same_unless before.profile after.profile apart; unites = unites; gathers = gathers }

IsOfProfile-loaded : (text : List ℕ) (ledger : LedgerValue) → LoadsAs text ledger → IsOfProfile ledger.profile text
unfolding IsOfProfile
IsOfProfile-loaded text ledger loads = (loads.faultless, sym loads.gathered.profile_is)

gathered-loaded : (text : List ℕ) (ledger : LedgerValue) → LoadsAs text ledger → IsLedgerOf ledger.profile (flat_map blocks_of (text ∷ [])) ledger
unfolding blocks_of
gathered-loaded text ledger loads =
    subst (λ set. IsLedgerOf ledger.profile set ledger) (sym (append-nil (reading_of text).blocks))
    (subst (λ p. IsLedgerOf p (reading_of text).blocks ledger) (sym loads.gathered.profile_is) loads.gathered)

-- the text alone
pub IsJoinOf-one : (text : List ℕ) (ledger : LedgerValue) → LoadsAs text ledger → IsJoinOf (text ∷ []) ledger
IsJoinOf-one text ledger loads = record {
  by_one = All-cons (IsOfProfile ledger.profile) text [] (IsOfProfile-loaded text ledger loads) (All-nil (IsOfProfile ledger.profile));
  gathered = gathered-loaded text ledger loads;
  of_none = λ e. cc;
}

-- some texts and others
pub IsJoinOf-both : (some others : List (List ℕ)) (before after new : LedgerValue) → 0 < length some → IsJoinOf some before → IsJoinOf others after → IsJoinOfTwo before after new → IsJoinOf (some ++ others) new
IsJoinOf-both [] others before after new none is other joined = absurd (omega (arith, none))
IsJoinOf-both (first ∷ texts) others before after new one is other joined =
    let same = joined.same in
    let by : new.profile ≡ before.profile = joined.unites.profile_stays in
    let some = first ∷ texts in
    let theirs = subst (λ p. IsLedgerOf p (flat_map blocks_of others) after) (sym same) other.gathered in
    let both = joined.gathers (flat_map blocks_of some) (flat_map blocks_of others) is.gathered theirs in
    record {
      by_one = subst (λ p. All (IsOfProfile p) (some ++ others)) (sym by)
          (All-append (IsOfProfile before.profile) some others is.by_one (subst (λ p. All (IsOfProfile p) others) (sym same) other.by_one));
      gathered = subst (λ p. IsLedgerOf p (flat_map blocks_of (some ++ others)) new) (sym by)
          (subst (λ set. IsLedgerOf before.profile set new) (sym (flat_map-append blocks_of some others)) both);
      of_none = λ e. cc;
    }

-- the text after some others: it begins where there is none
pub IsJoinOf-more : (texts : List (List ℕ)) (before new : LedgerValue) (text : List ℕ) → IsJoinOf texts before → IsJoinedAt before (length texts) text new → IsJoinOf (texts ++ text ∷ []) new
IsJoinOf-more [] before new text is loads = IsJoinOf-one text new loads
IsJoinOf-more (first ∷ texts) before new text is (after, loads, joined) =
    IsJoinOf-both (first ∷ texts) (text ∷ []) before after new (omega arith) is (IsJoinOf-one text after loads) joined

-- the same of a call that gives the ledger, or none
pub IfSome-one : (text : List ℕ) (loaded : Result LedgerValue LedgerFault) (Q : LedgerFault → Type 0) → MatchResult loaded (LoadsAs text) Q → IfSome (result_ok loaded) (IsJoinOf (text ∷ []))
IfSome-one text (Ok ledger) Q loads = IsJoinOf-one text ledger loads
IfSome-one text (Err fault) Q loads = tt

pub IfSome-both : (some others : List (List ℕ)) (before after : LedgerValue) (joined : Result LedgerValue JoinFault) → 0 < length some → IsJoinOf some before → IsJoinOf others after → IfOk joined (IsJoinOfTwo before after) → IfSome (result_ok joined) (IsJoinOf (some ++ others))
IfSome-both some others before after (Ok new) one is other joined = IsJoinOf-both some others before after new one is other joined
IfSome-both some others before after (Err fault) one is other joined = tt

-- the text of this index after those before it: joined to them, or the first that is refused
pub MatchResult-next : (texts : List (List ℕ)) (index : ℕ) (text : List ℕ) (before : LedgerValue) (result : Result LedgerValue JoinTextFault) → index < length texts → text ≡ get_or texts index [] → IsJoinOf (take index texts) before →
    IfOk result (IsJoinedAt before index text) → IfErr result (IsRefusedAt before index text) → MatchResult result (IsJoinOf (take (index + 1) texts)) (IsRefusedInTurn texts)
MatchResult-next texts index text before (Ok new) within at is joined refused =
    let count : length (take index texts) ≡ index = length-take-le index texts (omega (arith, within)) in
    subst (λ ts. IsJoinOf ts new) (sym (take_more texts index [] within ∙ ap (λ t. take index texts ++ t ∷ []) (sym at)))
    (IsJoinOf-more (take index texts) before new text is (subst (λ n. IsJoinedAt before n text new) (sym count) joined))
MatchResult-next texts index text before (Err found) within at is joined refused =
    (index, before, record { within = within; joined = is }, subst (λ t. IsRefusedAt before index t found) at refused)

-- of a list with one element
pub map-one : {X Y : Type 0} (f : X → Y) (xs : List X) (x : X) → 1 ≤ length xs → length xs < 2 → x ≡ get_or xs 0 x → map f xs ≡ f x ∷ []
map-one f [] x some one is = absurd (omega (arith, some))
map-one f (y ∷ []) x some one is = ap (λ z. f z ∷ []) (sym is)
map-one f (y ∷ z ∷ zs) x some one is = absurd (omega (arith, one))

-- of a list that is cut after the first n
pub map-parted : {X Y : Type 0} (f : X → Y) (xs front back : List X) (n : ℕ) → front ≡ take n xs → back ≡ drop n xs → map f front ++ map f back ≡ map f xs
map-parted f xs front back n first rest =
    sym (map-append f front back) ∙ ap (map f) (ap (λ ys. ys ++ back) first ∙ ap (λ ys. take n xs ++ ys) rest ∙ take-append-drop n xs)

-- the first i, and the others up to the j-th
pub take_up_to : {X Y : Type 0} (f : X → Y) (xs : List X) (i j : ℕ) → i ≤ j → take i (map f xs) ++ map f (take (j - i) (drop i xs)) ≡ take j (map f xs)
take_up_to f xs i j rises =
    let whole : i + (j - i) ≡ j = omega (arith, rises) in
    sym (take-add i (j - i) (map f xs) ∙ ap (λ ys. take i (map f xs) ++ ys) (ap (take (j - i)) (drop-map f i xs) ∙ take-map f (j - i) (drop i xs)))
    ∙ ap (λ n. take n (map f xs)) whole

-- why two ledgers were refused, from what `join` says of each cause
pub IsJoinFaultOf-refused : (a b : LedgerValue) (found : JoinFault) → ((found ≡ ProfileMismatch) ↔ (a.profile ≢ b.profile)) →
    ((name : Name) → (found ≡ Conflict name) ↔ ((a.profile ≡ b.profile) × IsLeastClash a b name)) →
    (found ≡ OutOfMemory → (a.profile ≡ b.profile) × AgreeTogether a b) → IsJoinFaultOf a b found
IsJoinFaultOf-refused a b ProfileMismatch mismatch conflict memory = mismatch.0 refl
IsJoinFaultOf-refused a b (Conflict name) mismatch conflict memory = (conflict name).0 refl
IsJoinFaultOf-refused a b OutOfMemory mismatch conflict memory = memory refl

-- a refusal in turn is why texts are refused, want of memory aside
pub IsRefusalOfTexts-in_turn : (form : Form) (ts : List (List ℕ)) (found : JoinTextFault) → found ≢ texts.OutOfMemory → IsRefusedInTurn ts found → IsRefusalOfTexts form ts found
IsRefusalOfTexts-in_turn form ts (texts.Load index fault) other refused = refused
IsRefusalOfTexts-in_turn form ts (texts.Join fault) other refused = refused
IsRefusalOfTexts-in_turn form ts texts.TooLong other (index, before, reached, at) = absurd at
IsRefusalOfTexts-in_turn form ts texts.OutOfMemory other refused = absurd (other refl)
