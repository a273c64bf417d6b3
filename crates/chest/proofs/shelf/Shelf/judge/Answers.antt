use Rattle.std.proofs.Common.{◌≡◌, Some, rules}
use Rattle.session.specs.Books.{book_at}
use Rattle.session.specs.Views.{hash_in, progress_in}
use Rattle.chest.specs.Views.{book_of, request_of, shelf_of}
use Rattle.chest.proofs.Opened.{judged_open, judged_shut}
use Rattle.chest.proofs.shelf.Shelf.judge.Goals as goal

pub returns-in_err-judge_book : goal.returns-in_err-judge_book
returns-in_err-judge_book g c =
    let b = book_of c.in_ok-book.book.now in
    let there : Some b ≡ book_at (shelf_of c.args.self.now) c.args.request.place = search rules in
    let shut = judged_shut (g.H.Hash.meaning (hash_in c.args.session.now)) (g.S.ReaderState.observed c.args.state.now) (shelf_of c.args.self.now) (progress_in c.args.session.now) (request_of c.args.request) b in
    search (rules, shut)

pub returns : goal.returns
returns g c =
    let b = book_of c.in_ok-book.book.now in
    let there : Some b ≡ book_at (shelf_of c.args.self.now) c.args.request.place = search rules in
    judged_open (g.H.Hash.meaning (hash_in c.args.session.now)) (g.S.ReaderState.observed c.args.state.now) (shelf_of c.args.self.now) (progress_in c.args.session.now) (request_of c.args.request) b there (search rules)
