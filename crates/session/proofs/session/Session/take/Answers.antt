use Rattle.std.proofs.Common.{◌≡◌, Ok, refl, rules}
use Rattle.session.specs.Views.{progress_of}
use Rattle.session.proofs.Stepping.{called_made, called_unmade}
use Rattle.session.proofs.session.Session.take.Goals as goal

pub returns-in_err-call : goal.returns-in_err-call
returns-in_err-call g c =
    let self = c.args.self.now in
    let long = (g.met.H.Hash.lawful self.hash).long in
    λ k e. record {
      called = called_unmade (g.K.Kind.checked self.kind) (g.H.Hash.meaning self.hash) (g.S.ReaderState.observed c.args.state.now) (progress_of self.progress) k c.args.made c.from_residual.result long (λ x t. search rules) (λ code t. search rules) e;
      kept = record { hash = refl {a = self.hash}; kind = refl {a = self.kind} };
    }

pub returns : goal.returns
returns g c =
    let self = c.args.self.now in
    let is : c.args.made ≡ Ok c.in_ok-call.call = search rules in
    λ k e. record {
      called = called_made (g.K.Kind.checked self.kind) (g.H.Hash.meaning self.hash) (g.S.ReaderState.observed c.args.state.now) (progress_of self.progress) k c.args.made c.in_ok-call.call c.step.result (progress_of c.step.new.self.progress) is c.step.ensures.answer c.step.ensures.after e;
      kept = c.step.ensures.kept;
    }
