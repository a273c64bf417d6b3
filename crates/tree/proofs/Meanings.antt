-- What the answer of digesting a text means.
use Rattle.std.proofs.Common.{◌≡◌, ℕ, List, Ok, Err, Result, refl, arith}
use Rattle.std.proofs.lemmas.Bool.Decides.{nat_tests}
use Rattle.interfaces.specs.declared.fault.Fault.{Fault}
use Rattle.interfaces.specs.Hashing.{Hashing, digest_length}
use Rattle.tree.specs.declared.summary.Summary.{Summary}
use Rattle.tree.specs.Answers.{digested, answer_of, written_of, Means}
use Rattle.tree.specs.Texts.{built}
use Rattle.tree.specs.Trees.{Tree}
use Rattle.tree.proofs.Complete.{refused}
use Rattle.tree.proofs.Sound.{built_sound}

digested-built : (text : List ℕ) (room : ℕ) (t : Tree) → digested text room ≡ Ok t → built digest_length text ≡ Ok t
digested-built text room t e = grind (arith, nat_tests)

digested-refused : (text : List ℕ) (room : ℕ) (f : Fault) → digested text room ≡ Err f → room ≡ digest_length → built digest_length text ≡ Err f
digested-refused text room f e is = grind (arith, nat_tests)

module _ (h : Hashing) (text : List ℕ) (room : ℕ) where
  told : (d : Result Tree Fault) → digested text room ≡ d → Means h text room (answer_of text d) (written_of h room d)
  told (Ok t) e = (t, built_sound digest_length text t (digested-built text room t e), refl, refl)
  told (Err f) e = λ is. refused digest_length text f (digested-refused text room f e is)

  pub means : (r : Result Summary Fault) (out : List ℕ) → r ≡ answer_of text (digested text room) → out ≡ written_of h room (digested text room) → Means h text room r out
  means r out a w = rw (a, w) (told (digested text room) refl)
