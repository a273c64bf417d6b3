use Rattle.std.proofs.Common.{length, rules}
use Rattle.session.specs.Views.{hash_in, progress_in}
use Rattle.chest.specs.Opened.{asked}
use Rattle.chest.specs.Views.{book_of, shelf_of}
use Rattle.session.proofs.KeptBranches.{only_by_a_kept_branch}
use Rattle.chest.proofs.Opened.{opened_fits}
use Rattle.chest.proofs.opening.open.Goals as goal

pub returns-in-Ok-clause-answer : goal.returns-in-Ok-clause-answer
returns-in-Ok-clause-answer g c =
    let room = length c.args.out.now in
    let fits = opened_fits (g.H.Hash.meaning (hash_in c.args.session.now)) (g.S.ReaderState.observed c.args.state.now) (shelf_of c.args.shelf.now) (progress_in c.args.session.now) (asked c.args.place c.args.given.now room) (book_of c.in-Ok.book.now) c.in-Ok.ensures in
    search (rules, fits)

pub returns-in-Ok-clause-written : goal.returns-in-Ok-clause-written
returns-in-Ok-clause-written g c =
    let room = length c.args.out.now in
    let fits = opened_fits (g.H.Hash.meaning (hash_in c.args.session.now)) (g.S.ReaderState.observed c.args.state.now) (shelf_of c.args.shelf.now) (progress_in c.args.session.now) (asked c.args.place c.args.given.now room) (book_of c.in-Ok.book.now) c.in-Ok.ensures in
    search (rules, fits)

pub returns-in-Ok-clause-means : goal.returns-in-Ok-clause-means
returns-in-Ok-clause-means g c =
    let q = asked c.args.place c.args.given.now (length c.args.out.now) in
    let session = c.args.session.now in
    λ b e. only_by_a_kept_branch (g.H.Hash.meaning (hash_in session)) (g.met.H.Hash.lawful (hash_in session)) (g.S.ReaderState.observed c.args.state.now) (shelf_of c.args.shelf.now) q (progress_in session) b e

pub returns-in-Err-clause-means : goal.returns-in-Err-clause-means
returns-in-Err-clause-means g c =
    let q = asked c.args.place c.args.given.now (length c.args.out.now) in
    let session = c.args.session.now in
    λ b e. only_by_a_kept_branch (g.H.Hash.meaning (hash_in session)) (g.met.H.Hash.lawful (hash_in session)) (g.S.ReaderState.observed c.args.state.now) (shelf_of c.args.shelf.now) q (progress_in session) b e
