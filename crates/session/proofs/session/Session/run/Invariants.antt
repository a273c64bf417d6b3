use Rattle.std.specs.Iterator.Adapters.{enumerate_source, enumerate_count}
use Rattle.session.specs.Kept.{Kept}
use Rattle.session.specs.Views.{progress_of}
use Rattle.session.proofs.Running.{Going}
use Rattle.session.proofs.session.Session.run.Given as goal

abbrev pub invariant-loop-i : goal.invariant-loop-i
invariant-loop-i g l =
    (goal.iterator-loop-i g).can_next l.i-iterator
    × (goal.iterator-loop-i g).is_finite l.i-iterator
    × Kept l.initial.self l.self
    × Going (g.K.Kind.checked l.initial.self.kind) (g.H.Hash.meaning l.initial.self.hash) (g.S.ReaderState.observed l.state) l.text (progress_of l.initial.self.progress) (enumerate_source l.i-iterator).rest.now (enumerate_count l.i-iterator) (progress_of l.self.progress)
