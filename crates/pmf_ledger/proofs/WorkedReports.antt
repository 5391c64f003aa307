-- The worked examples of a report and of a summary: a section with a row that fails, one that passes and an empty one, and sections of
-- nothing, the last of which is of another run.
use Rattle.std.{specs.Fmt.{digits}, proofs.Common.{◌≡◌, List, [], ◌∷◌, ◌++◌, codes, refl}}
use Rattle.pmf_event.specs.{declared.event.Event.{Event}, declared.event.Event.TheVariants.{Store, Flush, Fence, Persist}, declared.profile.Profile.TheVariants.{One}, Span.{Extent}, Places.{greatest, least, some_between, count, highest}, Store.{event_at, at, stores, stores_line, flushes, is_fence, last, epoch_of}, Interval.{writes_back, first_write_back, closes, closing_fence}, Exclusion.{excludes, marks, is_excluded}, Ranges.{first_from, count_from}, Persist.{is_checked, is_exposed, persist_finding}, FlushWarnings.{is_clean, is_pending, numbered, lines_where, flush_findings}, Transactions.{begins, ends, rise, depth_at, in_transaction, opens_scope, closes_scope, opens_after, scope_at, in_scope, store_finding, lacks_backup, close_finding}}
use Rattle.pmf_verdict.specs.{Checked.{Checked, checked_by}, Outcome.{is_same}, Rows.{findings_of, rows_upto, rows_at_end, rows_of}, Text.{text_of_finding}}
use Rattle.pmf_ledger.specs.Report.{rows_with, rows_with_in, totals_of, text_of_counts, text_of_header, text_of_section, text_of_totals, report_of}
use Rattle.pmf_ledger.specs.Summary.{is_amiss, is_of_run, line_of_run, runs_of, summary_of, text_of_run, text_of_summarized}

abbrev span : Extent
span = record { first = 0x1000; size = 8 }

-- eight bytes, asked after before and behind their fence, and a byte that was never stored to
abbrev told : List Event
told = Store span ∷ Persist span ∷ Flush span ∷ Fence ∷ Persist span ∷ Persist (record { first = 0x2000; size = 1 }) ∷ []

abbrev asked : Checked
asked = checked_by One (record { name = record { run = 7; number = 1 }; events = told })

abbrev of_nothing : Checked
of_nothing = checked_by One (record { name = record { run = 7; number = 20 }; events = [] })

report :
    report_of (asked ∷ of_nothing ∷ [])
    ≡ codes "section 7.1 events=6 pass=1 fail=1 warn=0 empty=1\n"
    ++ codes "2 PERSIST FAIL byte=0x1000 crash=2\n"
    ++ codes "5 PERSIST PASS\n"
    ++ codes "6 PERSIST EMPTY\n"
    ++ codes "section 7.20 events=0 pass=0 fail=0 warn=0 empty=0\n"
    ++ codes "total sections=2 pass=1 fail=1 warn=0 empty=1\n"
unfolding rows_of rows_upto rows_at_end findings_of persist_finding is_exposed is_checked is_excluded excludes marks first_from count_from closing_fence closes writes_back first_write_back epoch_of last is_fence flushes stores stores_line at event_at greatest least count some_between highest is_clean is_pending numbered lines_where flush_findings store_finding lacks_backup opens_scope closes_scope opens_after scope_at in_scope in_transaction begins ends rise depth_at close_finding rows_with rows_with_in totals_of is_same text_of_counts text_of_header text_of_section text_of_totals text_of_finding digits
report = refl

abbrev later : Checked
later = checked_by One (record { name = record { run = 8; number = 0 }; events = [] })

summary :
    summary_of (asked ∷ of_nothing ∷ later ∷ [])
    ≡ codes "section 7.1 events=6 pass=1 fail=1 warn=0 empty=1\n"
    ++ codes "2 PERSIST FAIL byte=0x1000 crash=2\n"
    ++ codes "section 7.20 events=0 pass=0 fail=0 warn=0 empty=0\n"
    ++ codes "run 7 sections=2 pass=1 fail=1 warn=0 empty=1\n"
    ++ codes "section 8.0 events=0 pass=0 fail=0 warn=0 empty=0\n"
    ++ codes "run 8 sections=1 pass=0 fail=0 warn=0 empty=0\n"
    ++ codes "total sections=3 pass=1 fail=1 warn=0 empty=1\n"
unfolding rows_of rows_upto rows_at_end findings_of persist_finding is_exposed is_checked is_excluded excludes marks first_from count_from closing_fence closes writes_back first_write_back epoch_of last is_fence flushes stores stores_line at event_at greatest least count some_between highest is_clean is_pending numbered lines_where flush_findings store_finding lacks_backup opens_scope closes_scope opens_after scope_at in_scope in_transaction begins ends rise depth_at close_finding rows_with rows_with_in totals_of is_same text_of_counts text_of_header text_of_section text_of_totals text_of_finding digits is_amiss is_of_run line_of_run runs_of text_of_run text_of_summarized
summary = refl
