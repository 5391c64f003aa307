-- Levels whose parts are joined, by what is done to them.
use Rattle.std.proofs.{Common.{◌≡◌, ℕ, ◌+◌, ◌<◌, ◌≤◌, List, length, get_or, set, take, drop, refl, sym, ◌∙◌, subst, arith, inl, inr, Option, None, Some, IfSome, get_or-set_same, get_or-set_other, length-set, length-take-le, get_or-take, length-drop, get_or-drop}, lemmas.Bool.{cases_eq}, lemmas.List.{get_or_read}}
use Rattle.pmf_runs.{specs.declared.level.Level.{Level}, specs.Ranks.{rank, Rises, HasKey, IsFresh, IsInner, bound_at, low_rank, high_rank}, specs.Joined.{AllJoined, PartsJoined, IsHanded, JoinsParts, InOrder}, proofs.RankLemmas.{rank-is, rank-key, bound_at-same, bound_at-other, bound_at-none, at-low, at-high}, proofs.LevelLemmas.{level-counted}, proofs.JoinedLemmas.{rank-order}}

-- a key is not fresh
pub has-fresh : (keys : List ℕ) (p : ℕ) → Rises keys → HasKey keys p → IsFresh keys p → ⊥
has-fresh keys p rises has fresh = grind (arith, rank-key, rank-is)

-- what a part is handed of a number that is a key, of one that is its own, and of another's
handed-key : (keys : List ℕ) (k p : ℕ) (inner : Option ℕ) → Rises keys → HasKey keys p → IsHanded keys k (Some p) inner → inner ≡ None
handed-key keys k p inner rises has (inl own) = absurd (has-fresh keys p rises has own.1)
handed-key keys k p inner rises has (inr away) = away.0

handed-own : (keys : List ℕ) (k p : ℕ) (inner : Option ℕ) → Rises keys → IsFresh keys p → k ≡ rank keys p → IsHanded keys k (Some p) inner → inner ≡ Some p
handed-own keys k p inner rises fresh at handed = grind (arith, has-fresh)

handed-other : (keys : List ℕ) (k p : ℕ) (inner : Option ℕ) → (k ≡ rank keys p → ⊥) → IsHanded keys k (Some p) inner → inner ≡ None
handed-other keys k p inner other handed = grind arith

-- the bounds of a rewriting are what the parts are handed
handed-bound : (keys : List ℕ) (bound inner : Option ℕ) (i k : ℕ) → IfSome bound (λ b. i ≡ rank keys b) → IsInner keys bound inner → IsHanded keys k bound (bound_at i k inner)
handed-bound keys bound inner i k h1 h2 = grind (arith, bound_at-none, cases_eq, bound_at-same, bound_at-other)

-- a bound at the rank of an end that is a key is that key
handed-last : (keys : List ℕ) (from end last : Option ℕ) (k : ℕ) → Rises keys → InOrder from end → last ≡ None → IsInner keys end last → low_rank keys from ≡ k → high_rank keys end ≤ k → k < length keys + 1 → IsHanded keys k from None
handed-last keys from end last k h1 h2 h3 h4 h5 h6 h7 = grind (arith, rank-key, rank-is)

pub order-bound : (low high i : ℕ) (from end first last : Option ℕ) → first ≡ bound_at low i from → last ≡ bound_at high i end → InOrder from end → InOrder first last
order-bound low high i from end first last is_first is_last order = grind (arith, cases_eq, bound_at-same, bound_at-other)

module _ {P : Type 0} (joined : P → Option ℕ → Option ℕ → Type 0) where
  pub parts-each : (level : Level P) → PartsJoined joined level None None → (k : ℕ) (part : P) → k < length level.parts.items → joined (get_or level.parts.items k part) None None
  parts-each level whole k part within = whole.parts k part None None within refl refl

  pub each-parts : (level : Level P) → ((k : ℕ) (part : P) → k < length level.parts.items → joined (get_or level.parts.items k part) None None) → PartsJoined joined level None None
  each-parts level each = grind arith

  -- all parts are joined
  pub parts-all : (good : P → Type 0) (level : Level P) → ((part : P) → joined part None None → good part) → PartsJoined joined level None None → AllJoined good level
  parts-all good level law whole = record { each = λ k part within. law (get_or level.parts.items k part) (parts-each level whole k part within) }

  pub all-parts-joined : (good : P → Type 0) (level : Level P) → ((part : P) → good part → joined part None None) → AllJoined good level → PartsJoined joined level None None
  all-parts-joined good level law all = each-parts level (λ k part within. law (get_or level.parts.items k part) (all.each k part within))

  pub parts-same : (old new : Level P) (one other : Option ℕ) → new.keys.items ≡ old.keys.items → new.parts.items ≡ old.parts.items → PartsJoined joined old one other → PartsJoined joined new one other
  parts-same old new one other keys parts whole = grind arith

  -- ---- cuts

  pub parts-begun : (old new : Level P) (p : ℕ) → HasKey old.keys.items p → new.keys.items ≡ old.keys.items → new.parts.items ≡ old.parts.items → PartsJoined joined old None None → PartsJoined joined new (Some p) None
  parts-begun old new p has keys parts whole = parts-same old new (Some p) None keys parts (record {
    parts = λ k part first second within is_first is_second. whole.parts k part first second within (handed-key old.keys.items k p first old.ordered has is_first) is_second;
  })

  pub parts-begun_too : (old new : Level P) (p : ℕ) (from : Option ℕ) → HasKey old.keys.items p → new.keys.items ≡ old.keys.items → new.parts.items ≡ old.parts.items → PartsJoined joined old from None → PartsJoined joined new from (Some p)
  parts-begun_too old new p from has keys parts whole = parts-same old new from (Some p) keys parts (record {
    parts = λ k part first second within is_first is_second. whole.parts k part first second within is_first (handed-key old.keys.items k p second old.ordered has is_second);
  })

  -- a part takes a new value
  pub parts-set : (old new : Level P) (next : P) (i : ℕ) (one other : Option ℕ) → i < length old.parts.items → new.keys.items ≡ old.keys.items → new.parts.items ≡ set old.parts.items i next →
      ((first second : Option ℕ) → IsHanded old.keys.items i one first → IsHanded old.keys.items i other second → joined next first second) →
      ((k : ℕ) (part : P) (first second : Option ℕ) → k < length old.parts.items → (k ≡ i → ⊥) → IsHanded old.keys.items k one first → IsHanded old.keys.items k other second → joined (get_or old.parts.items k part) first second) →
      PartsJoined joined new one other
  parts-set old new next i one other inside keys parts here rest = grind (arith, length-set, cases_eq, get_or-set_same, get_or-set_other)

  pub parts-cut : (old new : Level P) (part next : P) (p i : ℕ) → i < length old.parts.items → i ≡ rank old.keys.items p → IsFresh old.keys.items p → part ≡ get_or old.parts.items i part →
      new.keys.items ≡ old.keys.items → new.parts.items ≡ set old.parts.items i next → (joined part None None → joined next (Some p) None) → PartsJoined joined old None None → PartsJoined joined new (Some p) None
  parts-cut old new part next p i inside at fresh read keys parts cut whole = parts-set old new next i (Some p) None inside keys parts
      (λ first second is_first is_second.
      let own = handed-own old.keys.items i p first old.ordered fresh at is_first in
      subst (λ o. joined next o second) (sym own) (subst (joined next (Some p)) (sym is_second)
      (cut (subst (λ q. joined q None None) (sym read) (parts-each old whole i part inside)))))
      (λ k q first second within away is_first is_second.
      whole.parts k q first second within (handed-other old.keys.items k p first (λ same. away (same ∙ sym at)) is_first) is_second)

  pub parts-cut_too : (old new : Level P) (part next : P) (p i : ℕ) (from : Option ℕ) → i < length old.parts.items → i ≡ rank old.keys.items p → IsFresh old.keys.items p → part ≡ get_or old.parts.items i part →
      new.keys.items ≡ old.keys.items → new.parts.items ≡ set old.parts.items i next → ((inner : Option ℕ) → joined part inner None → joined next inner (Some p)) → PartsJoined joined old from None → PartsJoined joined new from (Some p)
  parts-cut_too old new part next p i from inside at fresh read keys parts cut whole = parts-set old new next i from (Some p) inside keys parts
      (λ first second is_first is_second.
      let own = handed-own old.keys.items i p second old.ordered fresh at is_second in
      subst (joined next first) (sym own)
      (cut first (subst (λ q. joined q first None) (sym read) (whole.parts i part first None inside is_first refl))))
      (λ k q first second within away is_first is_second.
      whole.parts k q first second within is_first (handed-other old.keys.items k p second (λ same. away (same ∙ sym at)) is_second))

  -- a part is changed, and stays joined
  pub parts-kept : (old new : Level P) (part next : P) (i : ℕ) → i < length old.parts.items → part ≡ get_or old.parts.items i part → new.keys.items ≡ old.keys.items → new.parts.items ≡ set old.parts.items i next →
      (joined part None None → joined next None None) → PartsJoined joined old None None → PartsJoined joined new None None
  parts-kept old new part next i inside read keys parts kept whole = grind (arith, parts-set, parts-each)

  -- ---- splitting, parting and taking out

  pub parts-low : (old low : Level P) (m : ℕ) → m ≤ length old.parts.items → low.parts.items ≡ take m old.parts.items → PartsJoined joined old None None → PartsJoined joined low None None
  parts-low old low m inside parts whole = grind (arith, each-parts, length-take-le, get_or-take, parts-each)

  pub parts-high : (old high : Level P) (m : ℕ) → high.parts.items ≡ drop m old.parts.items → PartsJoined joined old None None → PartsJoined joined high None None
  parts-high old high m parts whole = grind (arith, each-parts, length-drop, get_or-drop, parts-each)

  -- ---- rewriting the parts one after another

  module _ (low last : ℕ) (from end : Option ℕ) where
    pub joins-more : (old now new : List P) (part next : P) (i : ℕ) → low ≤ i → i < length now → part ≡ get_or now i part → (joined part (bound_at low i from) (bound_at last i end) → joined next None None) →
        new ≡ set now i next → JoinsParts joined low last from end i old now → JoinsParts joined low last from end (i + 1) old new
    joins-more old now new part next i after inside read law is so_far = grind (arith, cases_eq, get_or-set_same, get_or_read, get_or-set_other)

  pub parts-rewritten_some : (old new : Level P) (low high : ℕ) (from end first last : Option ℕ) → low ≡ low_rank old.keys.items from → high ≡ high_rank old.keys.items end →
      IsInner old.keys.items from first → IsInner old.keys.items end last → InOrder from end → new.keys ≡ old.keys → JoinsParts joined low high first last (high + 1) old.parts.items new.parts.items →
      PartsJoined joined old from end → PartsJoined joined new None None
  parts-rewritten_some old new low high from end first last at_low at_high is_first is_last order keys joins whole = grind (arith, rank-order, at-low, at-high, handed-bound)

  pub parts-rewritten_none : (old new : Level P) (low high : ℕ) (from end first last : Option ℕ) → low ≡ low_rank old.keys.items from → high + 1 ≡ high_rank old.keys.items end → last ≡ None →
      IsInner old.keys.items from first → IsInner old.keys.items end last → InOrder from end → new.keys ≡ old.keys → JoinsParts joined low high first last (high + 1) old.parts.items new.parts.items →
      PartsJoined joined old from end → PartsJoined joined new None None
  parts-rewritten_none old new low high from end first last at_low at_high none is_first is_last order keys joins whole = grind (arith, rank-order, at-low, level-counted, handed-bound, bound_at-none, cases_eq, handed-last)
