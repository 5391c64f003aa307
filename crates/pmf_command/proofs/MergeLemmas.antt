-- What a merge writes is what a join writes of the same texts.
use Rattle.std.proofs.{Common.{◌≡◌, ℕ, List, [], ◌∷◌, ◌++◌, flat_map, None, All, Contains, refl, sym, ◌∙◌, ap, subst, arith}, lemmas.List.Elements.{All-head, All-tail}, lemmas.Grind.{common_steps}}
use Rattle.pmf_event.specs.declared.profile.Profile.{Profile}
use Rattle.pmf_ledger.{specs.{Gathered.{IsLedgerOf}, LedgerValue.{LedgerValue}, Loading.{Reading, fault_of, reading_of, reading_through}, Telling.{text_told}}, proofs.lemmas.UniqueLemmas.{ledger_once}}
use Rattle.pmf_stream.specs.Joining.{IsJoinOf, IsOfProfile, blocks_of}
use Rattle.pmf_merge.specs.Merging.{IsMergeOf, IsTextBy, blocks_in}
use Rattle.pmf_command.specs.MergesAreJoins.{MergesAreJoins}

-- a text that loads is not too long, and is read as any other
same_reading : (text : List ℕ) → fault_of text ≡ None → reading_of text ≡ reading_through text
unfolding reading_of fault_of
same_reading text faultless = grind (arith, common_steps)

of_one : (profile : Profile) (texts : List (List ℕ)) → All (IsOfProfile profile) texts → flat_map blocks_of texts ≡ flat_map blocks_in texts
unfolding blocks_of IsOfProfile
of_one profile [] by = refl
of_one profile (text ∷ texts) by =
    let first = same_reading text (All-head (IsOfProfile profile) text texts by).0 in
    ap (λ (r : Reading). r.blocks ++ flat_map blocks_of texts) first ∙ ap (λ ss. blocks_in text ++ ss) (of_one profile texts (All-tail (IsOfProfile profile) text texts by))

-- of the same texts a merge and a join have one ledger
one_ledger : (texts : List (List ℕ)) (a b : LedgerValue) → IsMergeOf texts a → IsJoinOf texts b → a ≡ b
unfolding IsOfProfile
one_ledger texts a b merge join =
    let by : a.profile ≡ b.profile = one_profile texts merge join in
    ledger_once b.profile (flat_map blocks_in texts) (flat_map blocks_of texts) a b (subst (λ p. IsLedgerOf p (flat_map blocks_in texts) a) by merge.gathered) join.gathered
    (λ s. (subst (λ ss. Contains ss s) (sym (of_one b.profile texts join.by_one)), subst (λ ss. Contains ss s) (of_one b.profile texts join.by_one)))
  where
    one_profile : (ts : List (List ℕ)) → IsMergeOf ts a → IsJoinOf ts b → a.profile ≡ b.profile
    one_profile [] m j = m.of_none refl ∙ sym (j.of_none refl)
    one_profile (t ∷ ts) m j =
        let merged = All-head (IsTextBy a.profile) t ts m.by_one in
        let joined = All-head (IsOfProfile b.profile) t ts j.by_one in
        sym merged.1 ∙ ap (λ (r : Reading). r.profile) (sym (same_reading t joined.0)) ∙ joined.1

pub merges_join : MergesAreJoins
unfolding MergesAreJoins
merges_join form texts totals joined merged text merge join =
    merge.text_is ∙ ap (text_told form) (one_ledger texts merge.ledger join.ledger merge.merges join.joins) ∙ sym join.written.text_is
