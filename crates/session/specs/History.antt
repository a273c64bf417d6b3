-- What a policy session has accepted since its last clearing, and what an accepted opening means.
-- A clearing is a start, a restart or an accepted opening.
use Rattle.std.specs.Prelude.{◌≡◌, ◌≢◌, ℕ, true, cond, ◌⊎◌, List, [], ◌∷◌, ◌++◌, map, Some, None, Ok, Err, Option, Result}
use Rattle.std.specs.List.{AllByRecursion}
use Rattle.interfaces.specs.declared.code.Code.{Code}
use Rattle.interfaces.specs.declared.fault.Refusal.{Refusal}
use Rattle.interfaces.specs.Hashing.{Hashing, digest_length, zeros}
use Rattle.interfaces.specs.States.{Snapshot}
use Rattle.text.specs.Cut.{lines}
use Rattle.policy.specs.Assertions.{Assertion, pcr, nv, time, locality, command, presence, password}
use Rattle.policy.specs.Strings.{inner, join_string, step_string}
use Rattle.conditions.specs.Meeting.{unmet}
use Rattle.tree.specs.Texts.{Builds}
use Rattle.tree.specs.Trees.{Tree, Forest, leaf, step, choice, nil, cons, branches, tree_digest, forest_digests}
use Rattle.calls.specs.Calls.{Call, assert, or, HoldsCall}
use Rattle.calls.specs.Reading.{read_call}
use Rattle.session.specs.Books.{Book, Shelf}
use Rattle.session.specs.Events.{Event, called, ran, restarted, opened, progress_after}
use Rattle.session.specs.Openings.{Request, has_locality, opening, same_password, tries_left, unseal}
use Rattle.session.specs.Runs.{line_after, line_refusal, run_fits}
use Rattle.session.specs.Steps.{Progress, after, fresh, refusal}

-- x is one of a list.
abbrev pub IsIn : {A : Type 0} → A → List A → Type 0
IsIn x [] = ⊥
IsIn x (y ∷ ys) = (x ≡ y) ⊎ IsIn x ys

-- An accepted call, and the state that it found.
pub record Accepted : Type 0 where
  pub found : Snapshot
  pub call : Call

-- The accepted calls since the last clearing, the newest first.
abbrev pub with_accepted : Option Refusal → Accepted → List Accepted → List Accepted
with_accepted None a before = a ∷ before
with_accepted (Some e) a before = before

abbrev pub unless_refused : Option Refusal → List Accepted → List Accepted → List Accepted
unless_refused None later before = later
unless_refused (Some e) later before = before

abbrev pub read_accepted : Hashing → Snapshot → Progress → Result Call Refusal → List Accepted → List Accepted
read_accepted h s p (Ok c) before = with_accepted (refusal true h s p c) (record { found = s; call = c }) before
read_accepted h s p (Err e) before = before

-- A run counts as the calls of its lines, up to the first refused one.
abbrev pub lines_accepted : Hashing → Snapshot → List (List ℕ) → Progress → List Accepted → List Accepted
lines_accepted h s [] p before = before
lines_accepted h s (line ∷ more) p before = unless_refused (line_refusal true h s p line) (lines_accepted h s more (line_after true h s p line) (read_accepted h s p (read_call h.size line) before)) before

abbrev pub unless_opened : Result Book Code → List Accepted → List Accepted
unless_opened (Ok b) before = []
unless_opened (Err c) before = before

abbrev pub accepted_since : Hashing → List Event → List Accepted
accepted_since h [] = []
accepted_since h (called s c ∷ es) = with_accepted (refusal true h s (progress_after true h es) c) (record { found = s; call = c }) (accepted_since h es)
accepted_since h (ran s text ∷ es) = cond (run_fits text) (lines_accepted h s (lines text) (progress_after true h es) (accepted_since h es)) (accepted_since h es)
accepted_since h (restarted ∷ es) = []
accepted_since h (opened s shelf q ∷ es) = unless_opened (opening h s shelf (progress_after true h es) q) (accepted_since h es)

-- The session that accepted calls make of a fresh one.
abbrev pub made_of : Hashing → List Accepted → Progress
made_of h [] = fresh h
made_of h (a ∷ before) = after true h a.found (made_of h before) a.call

-- The assertions among accepted calls, each with the state that it found, the oldest first; `or`
-- calls are omitted.
abbrev pub asserted_by : Accepted → Call → List (Snapshot × Assertion)
asserted_by a (assert x) = (a.found, x) ∷ []
asserted_by a (or ds) = []

abbrev pub asserted : List Accepted → List (Snapshot × Assertion)
asserted [] = []
asserted (a ∷ before) = asserted before ++ asserted_by a a.call

-- `nv` and `time` hold for the state that their call found.
abbrev pub HeldAtCall : Hashing → Snapshot × Assertion → Type 0
HeldAtCall h (s, nv name c) = unmet h s (nv name c) ≡ None
HeldAtCall h (s, time c) = unmet h s (time c) ≡ None
HeldAtCall h (s, pcr selection digest) = Unit {0}
HeldAtCall h (s, locality set) = Unit {0}
HeldAtCall h (s, command code) = Unit {0}
HeldAtCall h (s, presence) = Unit {0}
HeldAtCall h (s, password) = Unit {0}

-- The rest hold for the state, the book, the given password and the tries that the opening finds:
-- `pcr` where `Steady` is so.
module _ (h : Hashing) (s : Snapshot) (shelf : Shelf) (q : Request) (b : Book) (Steady : Type 0) where
  abbrev pub HoldsAtOpening : Assertion → Type 0
  HoldsAtOpening (pcr selection digest) = Steady → unmet h s (pcr selection digest) ≡ None
  HoldsAtOpening (nv name c) = Unit {0}
  HoldsAtOpening (time c) = Unit {0}
  HoldsAtOpening (locality set) = has_locality set s.locality ≡ true
  HoldsAtOpening (command code) = code ≡ unseal
  HoldsAtOpening presence = s.presence ≡ true
  HoldsAtOpening password = (same_password q.given b.password ≡ true) × (tries_left shelf ≡ true)

-- Equal change counts mean equal PCRs, among these states.
abbrev pub Steadily : List Snapshot → Type 0
Steadily states = (x y : Snapshot) → IsIn x states → IsIn y states → x.count ≡ y.count → x.pcrs ≡ y.pcrs

-- A whole branch of the tree has been kept: the assertions accepted since the last clearing are that
-- branch, in order, and each held when it had to.
pub record BranchKept (h : Hashing) (s : Snapshot) (shelf : Shelf) (q : Request) (b : Book) (since : List Accepted) (t : Tree) : Type 0 where
  pub is_branch : IsIn (map (λ p. p.1) (asserted since)) (branches t)
  pub at_calls : AllByRecursion (HeldAtCall h) (asserted since)
  pub at_opening : AllByRecursion (λ p. HoldsAtOpening h s shelf q b (Steadily (s ∷ map (λ a. a.found) since)) p.1) (asserted since)

-- The strings hashed for a call on a session with this digest, inner ones first.
abbrev pub call_strings : Hashing → List ℕ → Call → List (List ℕ)
call_strings h old (assert a) = inner a ++ step_string h old a ∷ []
call_strings h old (or ds) = join_string h ds ∷ []

-- Those hashed for a session's digest since the last clearing.
abbrev pub session_strings : Hashing → List Accepted → List (List ℕ)
session_strings h [] = []
session_strings h (a ∷ before) = session_strings h before ++ call_strings h ((made_of h before).digest) a.call

-- Those hashed for a tree's digest.
abbrev mutual
  pub tree_strings : Hashing → Tree → List (List ℕ)
  tree_strings h leaf = []
  tree_strings h (step t a) = tree_strings h t ++ inner a ++ step_string h (tree_digest h t) a ∷ []
  tree_strings h (choice f) = forest_strings h f ++ join_string h (forest_digests h f) ∷ []

  pub forest_strings : Hashing → Forest → List (List ℕ)
  forest_strings h nil = []
  forest_strings h (cons t f) = tree_strings h t ++ forest_strings h f

-- Two different ones of these strings have one digest, or one of them has the zero digest.
abbrev pub Escape : Hashing → List (List ℕ) → Type 0
Escape h strings =
    ((x : List ℕ) × (y : List ℕ) × IsIn x strings × IsIn y strings × (x ≢ y) × (h.digest x ≡ h.digest y))
    ⊎ ((x : List ℕ) × IsIn x strings × (h.digest x ≡ zeros h))

-- The fields of an event's call hold what they can hold at all, as those of a line's call always do.
abbrev pub HoldsEvent : Event → Type 0
HoldsEvent (called s c) = HoldsCall c
HoldsEvent (ran s text) = Unit {0}
HoldsEvent restarted = Unit {0}
HoldsEvent (opened s shelf q) = Unit {0}

-- What an accepted opening means: whatever events led to the session, and whatever policy text without
-- fault builds a tree of the book's digest, a whole branch of that tree has been kept since the last
-- clearing, but for an escape among the strings hashed for the session since then and for the tree.
-- A string hashed gives an offset 2 bytes: hence `HoldsEvent`.
abbrev pub OnlyByAKeptBranch : Hashing → Snapshot → Shelf → Request → Progress → Book → Type 0
OnlyByAKeptBranch h s shelf q p b =
    (es : List Event) → AllByRecursion HoldsEvent es → progress_after true h es ≡ p
    → (text : List ℕ) (t : Tree) → Builds digest_length text t → tree_digest h t ≡ b.digest
    → BranchKept h s shelf q b (accepted_since h es) t ⊎ Escape h (session_strings h (accepted_since h es) ++ tree_strings h t)
