use Rattle.pmf_words.proofs.commands.join.Goals as goal

pub returns : goal.returns
returns c =
    let ledger = c.with_option-join.ensures _ _ c.head.ensures c.ledger.ensures.rule c.ledger.ensures.local in
    let summary = c.with_option-join-2.ensures _ _ ledger c.summary.ensures.rule c.summary.ensures.local in
    let listed = c.with_option-join-3.ensures _ _ summary c.files_from.ensures.rule c.files_from.ensures.local in
    let streamed = c.with_option-join-4.ensures _ _ listed c.stream.ensures.rule c.stream.ensures.local in
    let trusted = c.with_option-join-5.ensures _ _ streamed c.trust.ensures.rule c.trust.ensures.local in
    c.with_option.ensures _ _ (c.with_option-join-6.ensures _ _ trusted c.merge_workers.ensures.rule c.merge_workers.ensures.local) c.file.ensures.rule c.file.ensures.local
