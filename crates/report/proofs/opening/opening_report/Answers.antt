use Rattle.std.proofs.Common.{◌≡◌, true, ◌++◌, codes, decimal, length, sym, ap, ◌∙◌, arith, rules}
use Rattle.interfaces.specs.Faults.{fault_at}
use Rattle.block.specs.Layout.{block_snapshot}
use Rattle.block.specs.Views.{block_bytes}
use Rattle.session.specs.Books.{content_limit}
use Rattle.session.specs.Openings.{content_of, opening, session_after, shelf_after}
use Rattle.session.specs.Runs.{run_after, run_answer}
use Rattle.session.specs.Steps.{fresh}
use Rattle.session.specs.Views.{hash_in, progress_in, progress_of}
use Rattle.chest.specs.Opened.{asked, opening_with}
use Rattle.chest.specs.Views.{shelf_of}
use Rattle.report.specs.BookFiles.{book_in}
use Rattle.report.specs.OpeningReports.{files_flaw, first_place, shelf_with, shown_content, shown_run_and_opening, shown_unless_refused}
use Rattle.report.specs.Reports.{labelled, shown_fault}
use Rattle.report.specs.RunReports.{shown_lines, shown_progress}
use Rattle.report.specs.Views.{taken_for}
use Rattle.report.proofs.Opened.{files_refused, four_pieces, written}
use Rattle.report.proofs.Shown.{taken-is}
use Rattle.report.proofs.opening.opening_report.Goals as goal

pub returns-in-Err : goal.returns-in-Err
returns-in-Err g c =
    let bs = c.args.block.now in
    let book = c.args.book.now in
    let fault = c.at.ensures ∙ ap (fault_at 0) c.call.ensures in
    let shown = shown_run_and_opening (g.H.Hash.meaning c.args.hash) (block_snapshot bs) c.args.text.now (book_in book) c.args.given.now in
    c.add_fault.ensures.joined
    ∙ (λ i. c.new-report.ensures i ++ shown_fault (fault i))
    ∙ files_refused (files_flaw bs book) (bs, shelf_with (book_in book)) shown c.in-Err.code c.in-Err.ensures

pub add_content-requires : goal.add_content-requires
add_content-requires g c =
    let room = content_limit in
    let outcome = opening_with g.H.Hash.meaning (block_snapshot (block_bytes c.in-Ok.taken.0)) c.run.new.self c.in-Ok.taken.1 (asked first_place c.args.given.now room) in
    let opened = written room c.open-opened.new.out c.open-opened.result (content_of outcome) (search rules) c.open-opened.ensures.answer c.open-opened.ensures.written in
    (omega arith, (opened.within, omega (arith, c.add_lines.ensures.short, ap length c.new-report.ensures)))

pub returns : goal.returns
returns g c =
    let h = g.H.Hash.meaning c.args.hash in
    let bs = c.args.block.now in
    let text = c.args.text.now in
    let b = book_in c.args.book.now in
    let s = block_snapshot bs in
    let q = asked first_place c.args.given.now content_limit in
    let p = run_after true h s text (fresh h) in
    let taken = taken-is (files_flaw bs c.args.book.now) (bs, shelf_with b) (taken_for c.in-Ok.taken) c.in-Ok.ensures in
    let state : block_bytes c.in-Ok.taken.0 ≡ bs = ap (λ t. t.0) taken.1 in
    let shelf : shelf_of c.in-Ok.taken.1 ≡ shelf_with b = ap (λ t. t.1) taken.1 in
    let hash : g.H.Hash.meaning c.policy-session.result.hash ≡ h = ap g.H.Hash.meaning c.policy-session.ensures.hash in
    let answered : c.run.result ≡ run_answer true h s text (fresh h) = c.run.ensures.ran.answer ∙ (λ i. run_answer true (hash i) (block_snapshot (state i)) text (c.policy-session.ensures.fresh i)) in
    let left : progress_in c.run.new.self ≡ p = c.run.ensures.ran.after ∙ (λ i. run_after true (hash i) (block_snapshot (state i)) text (c.policy-session.ensures.fresh i)) in
    let kept : g.H.Hash.meaning (hash_in c.run.new.self) ≡ h = ap g.H.Hash.meaning c.run.ensures.kept.hash ∙ hash in
    let outcome = opening_with g.H.Hash.meaning (block_snapshot (block_bytes c.in-Ok.taken.0)) c.run.new.self c.in-Ok.taken.1 q in
    let came : outcome ≡ opening h s (shelf_with b) p q = (λ i. opening (kept i) (block_snapshot (state i)) (shelf i) (left i) q) in
    let read = (written content_limit c.open-opened.new.out c.open-opened.result (content_of outcome) (search rules) c.open-opened.ensures.answer c.open-opened.ensures.written).read in
    let lines = c.add_lines.ensures.joined ∙ (λ i. c.new-report.ensures i ++ shown_lines (answered i)) in
    let content = c.add_content.ensures.joined ∙ (λ i. lines i ++ shown_content ((read ∙ ap content_of came) i)) in
    let counted : c.tries.result ≡ (shelf_after (shelf_with b) p (opening h s (shelf_with b) p q)).tries = c.tries.ensures ∙ ap (λ x. x.tries) (c.open-opened.ensures.shelf ∙ (λ i. shelf_after (shelf i) (left i) (came i))) in
    let tries = c.add_count.ensures.joined ∙ (λ i. content i ++ labelled (codes "tries") (decimal (counted i))) in
    let later : progress_of c.progress.result ≡ session_after h p (opening h s (shelf_with b) p q) = ap progress_of c.progress.ensures ∙ c.open-opened.ensures.session ∙ (λ i. session_after (kept i) (left i) (came i)) in
    c.add_progress.ensures.joined
    ∙ (λ i. tries i ++ shown_progress (later i))
    ∙ four_pieces (shown_lines (run_answer true h s text (fresh h))) _ _ _
    ∙ sym (ap (λ f. shown_unless_refused f (shown_run_and_opening h s text b c.args.given.now)) taken.0)
